use Rattle.std.proofs.Common.{◌≡◌, ◌++◌, drop, filter, map}
use Rattle.deny_cfg_build.specs.BuildingView.{words_of}
use Rattle.deny_spec_report.specs.PackageFiles.{is_decided_by}
use Rattle.deny_spec_report.specs.PackageDiags.{glob_label}
use Rattle.deny_diags_build.proofs.globs.labels_of_globs.Given as goal

abbrev pub invariant-loop-pattern : goal.invariant-loop-pattern
invariant-loop-pattern l =
    l.labels ++ map (glob_label l.policy)
    (filter (λ w. is_decided_by l.deciding.file.now w.value) (map words_of (drop l.pattern-index l.patterns)))
    ≡ map (glob_label l.policy) (filter (λ w. is_decided_by l.deciding.file.now w.value) (map words_of l.patterns))
