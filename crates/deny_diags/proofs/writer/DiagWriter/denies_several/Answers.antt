use Rattle.std.proofs.Common.{◌∙◌, List, ap}
use Rattle.std.specs.List.{list_any}
use Rattle.deny_cfg.specs.PolicyView.{policy_view}
use Rattle.deny_spec.specs.Duplicates.{is_denied_multiple}
use Rattle.deny_rules_match.specs.Marks.{mark_at}
use Rattle.deny_diags.proofs.ReportedLemmas.{one_marked}
use Rattle.deny_diags.proofs.writer.DiagWriter.denies_several.Goals as goal

pub returns : goal.returns
returns c =
    let self = c.args.self.now in
    c.is_one_marked.ensures
    ∙ (ap (λ (marks : List _). list_any (mark_at marks) c.args.places.now) c.as_slice.ensures
    ∙ one_marked self.ctx.krates.now
    (is_denied_multiple (policy_view self.ctx.cfg.now)) self.found.now.several c.args.places.now self.several_marked)
