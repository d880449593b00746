use Rattle.std.proofs.Common.{◌≡◌, take}
use Rattle.deny_toml_tree.specs.Tree.{longest}
use Rattle.deny_toml_tree.proofs.lines.longest.Given as goal

abbrev pub invariant-loop-member : goal.invariant-loop-member
invariant-loop-member l = l.most ≡ longest (take l.member-index l.members)
