use Rattle.std.proofs.Common.{◌≡◌, ◌++◌, drop, map}
use Rattle.deny_spec_report.specs.PackageDiags.{glob_label}
use Rattle.deny_diags_build.proofs.scripts.labels_of.Given as goal

abbrev pub invariant-loop-feature : goal.invariant-loop-feature
invariant-loop-feature l =
    l.labels ++ map (glob_label l.policy) (map (λ w. w.now) (drop l.feature-index l.features))
    ≡ map (glob_label l.policy) (map (λ w. w.now) l.features)
