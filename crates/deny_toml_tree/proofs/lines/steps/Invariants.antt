use Rattle.std.proofs.Common.{◌≡◌}
use Rattle.deny_toml_tree.specs.Tree.{steps}
use Rattle.deny_toml_tree.proofs.lines.steps.Given as goal

abbrev pub invariant-lines : goal.invariant-lines
invariant-lines l = l.found ≡ steps l.yielded
