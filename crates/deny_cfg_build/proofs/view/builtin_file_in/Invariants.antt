use Rattle.std.proofs.Common.{◌≡◌, drop}
use Rattle.deny_cfg_build.specs.BuildingView.{builtin_file_in}
use Rattle.deny_cfg_build.proofs.view.builtin_file_in.Given as goal

abbrev pub invariant-loop-pattern : goal.invariant-loop-pattern
invariant-loop-pattern l = builtin_file_in (drop l.pattern-index l.patterns) ≡ builtin_file_in l.patterns
