use Rattle.std.proofs.Common.{◌≡◌, ◌++◌, take}
use Rattle.deny_krates_trees.specs.private.Levels.{before_in}
use Rattle.deny_krates_trees.proofs.text.write_before.Given as goal

abbrev pub invariant-loop-level : goal.invariant-loop-level
invariant-loop-level l = l.text ≡ l.initial.text ++ before_in (take l.level-index l.levels)
