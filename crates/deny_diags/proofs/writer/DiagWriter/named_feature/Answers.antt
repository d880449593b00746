use Rattle.std.proofs.Common.{Option, subst, sym, ◌∙◌}
use Rattle.std.specs.Prelude.{IsTrue, is_some}
use Rattle.deny_spec.specs.Policy.{SpannedText}
use Rattle.deny_diags.proofs.writer.DiagWriter.named_feature.Goals as goal

pub returns : goal.returns
returns c = c.in-Some.ensures ∙ c.args.self.now.features_found.at c.args.span

pub unreachable-requires : goal.unreachable-requires
unreachable-requires c =
    cc (subst (λ (o : Option SpannedText). IsTrue (is_some o))
    (sym (c.in-None.ensures ∙ c.args.self.now.features_found.at c.args.span)) c.requires)
