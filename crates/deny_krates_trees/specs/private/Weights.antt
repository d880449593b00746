-- The number of nodes of trees, and a measure of the work that is left while they are dropped.
use Rattle.std.specs.Prelude.{ℕ, suc, ◌+◌, ◌*◌, List, Option, None, Some, sum, sum_by}
use Rattle.deny_krates_trees.specs.declared.node.GraphNode.{GraphNode, GraphNode-F, fold-GraphNode}

abbrev pub weight_step : GraphNode-F ℕ → ℕ
weight_step node = suc (sum node.parents)

abbrev pub weight : GraphNode → ℕ
weight = fold-GraphNode ℕ weight_step

abbrev pub weights : List GraphNode → ℕ
weights trees = sum_by weight trees

-- a step drops a node, or goes on with a tree of fewer nodes
unfoldable pub turns : ℕ → ℕ → ℕ
turns all own = suc (all * all + own)

abbrev pub turns_left : List GraphNode → Option GraphNode → ℕ
turns_left trees None = 0
turns_left trees (Some tree) = turns (weights trees + weight tree) (weight tree)
