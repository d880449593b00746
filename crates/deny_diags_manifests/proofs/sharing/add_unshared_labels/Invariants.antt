use Rattle.std.proofs.Common.{◌≡◌, ◌++◌, drop, map}
use Rattle.deny_spec_report.specs.Sharing.{unshared_labels}
use Rattle.deny_rules_manifests.specs.Uses.{use_view}
use Rattle.deny_diags_manifests.proofs.sharing.add_unshared_labels.Given as goal

abbrev pub invariant-loop-used : goal.invariant-loop-used
invariant-loop-used l = l.labels ++ unshared_labels (map use_view (drop l.used-index l.uses))
    ≡ l.fn.labels ++ unshared_labels (map use_view l.uses)
