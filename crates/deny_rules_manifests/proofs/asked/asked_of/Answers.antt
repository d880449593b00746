use Rattle.std.proofs.Common.{Bool, List}
use Rattle.std.proofs.lemmas.Result.{IfOk-weaker}
use Rattle.deny_cfg.specs.PolicyView.{policy_view}
use Rattle.deny_rules_manifests.proofs.AskedLemmas.{asked_are}
use Rattle.deny_rules_manifests.proofs.asked.asked_of.Goals as goal

pub returns : goal.returns
returns c =
    let found = c.args.found.now in
    IfOk-weaker c.asked_by_marks.result _ _
    (λ (asked : List Bool) is. asked_are (policy_view found.cfg.now) found.krates.now found.marks found.groups
    c.are_placed.ensures found.grouped asked is) c.asked_by_marks.ensures
