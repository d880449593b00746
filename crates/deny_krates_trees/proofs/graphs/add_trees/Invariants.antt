use Rattle.std.proofs.Common.{◌≡◌, ◌++◌, take}
use Rattle.std.specs.Prelude.{filter_map}
use Rattle.deny_krates_trees.specs.Tree.{graph_of}
use Rattle.deny_krates_trees.proofs.graphs.add_trees.Given as goal

abbrev pub invariant-loop-node : goal.invariant-loop-node
invariant-loop-node l = l.trees ≡ l.initial.trees ++ filter_map (graph_of l.krates l.most) (take l.node-index l.shown)
