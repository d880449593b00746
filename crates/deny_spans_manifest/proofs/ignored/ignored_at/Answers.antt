use Rattle.std.proofs.Common.{refl, sym, ◌∙◌}
use Rattle.std.proofs.lemmas.Result.{IfOk-weaker}
use Rattle.std.specs.Prelude.{None, Some, false, true}
use Rattle.deny_spans_manifest.proofs.IgnoredLemmas.{ignored_is}
use Rattle.deny_spans_manifest.specs.Ignored.{duplicates_in}
use Rattle.deny_spans_manifest.proofs.ignored.ignored_at.Goals as goal

pub returns-then-not-is_member : goal.returns-then-not-is_member
returns-then-not-is_member c = c.new.ensures
    ∙ ignored_is c.args.krates.now c.args.place c.args.tree.now false (duplicates_in c.args.tree.now)
    (sym c.if-not-is_member.true ∙ c.is_member.ensures) refl

pub returns-in-Some : goal.returns-in-Some
returns-in-Some c = IfOk-weaker c.unnamed_in.result _ _
    (λ ignored is. is ∙ ignored_is c.args.krates.now c.args.place c.args.tree.now true (Some c.in-Some.listed.now)
    (sym c.if-not-is_member.false ∙ c.is_member.ensures) c.in-Some.ensures)
    c.unnamed_in.ensures

pub returns-in-None : goal.returns-in-None
returns-in-None c = c.new-in-None.ensures
    ∙ ignored_is c.args.krates.now c.args.place c.args.tree.now true None
    (sym c.if-not-is_member.false ∙ c.is_member.ensures) c.in-None.ensures
