use Rattle.std.proofs.Common.{◌≡◌, ◌++◌, drop, filter, map}
use Rattle.deny_cfg_build.specs.Globs.{extension_text}
use Rattle.deny_spec_report.specs.PackageFiles.{is_decided_by}
use Rattle.deny_diags_build.specs.private.Globs.{script_label}
use Rattle.deny_diags_build.proofs.globs.labels_of_extensions.Given as goal

abbrev pub invariant-loop-pattern : goal.invariant-loop-pattern
invariant-loop-pattern l =
    l.labels ++ map (script_label l.policy l.globs)
    (filter (λ pattern. is_decided_by l.deciding.file.now (extension_text pattern)) (drop l.pattern-index l.patterns))
    ≡ map (script_label l.policy l.globs)
    (filter (λ pattern. is_decided_by l.deciding.file.now (extension_text pattern)) l.patterns)
