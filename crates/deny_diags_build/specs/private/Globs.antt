-- The label of a glob of scripts, by its pattern.
use Rattle.std.specs.Prelude.{ℕ, [], codes, if◌then◌else◌}
use Rattle.deny_base.specs.declared.label.Label.{Label}
use Rattle.deny_cfg_build.specs.BuildingView.{is_built_in, words_of}
use Rattle.deny_cfg_build.specs.declared.pattern.GlobPattern.{GlobPattern}
use Rattle.deny_spec.specs.DiagParts.{secondary}

-- the label of a pattern, by the numbers of the policy's file and of the file of the built-in globs
abbrev pub script_label : ℕ → ℕ → GlobPattern → Label
script_label policy globs pattern = if is_built_in pattern
    then secondary globs (words_of pattern).span (codes "builtin")
    else secondary policy (words_of pattern).span []
