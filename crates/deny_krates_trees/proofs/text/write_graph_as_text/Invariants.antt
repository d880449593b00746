use Rattle.std.proofs.Common.{◌≡◌, ◌++◌, []}
use Rattle.deny_krates_trees.specs.Text.{tree_text}
use Rattle.deny_krates_trees.specs.private.Levels.{nodes_left, rest_text}
use Rattle.deny_krates_trees.proofs.text.write_graph_as_text.Given as goal

abbrev pub invariant-loop-level : goal.invariant-loop-level
invariant-loop-level l = l.text ++ rest_text [] l.levels.items ≡ tree_text l.root

abbrev pub decreases-loop-level : goal.decreases-loop-level
decreases-loop-level l = nodes_left l.levels.items
