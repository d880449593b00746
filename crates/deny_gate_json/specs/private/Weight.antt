-- A measure of trees: each node counts for itself and for the list of its parents.
use Rattle.std.specs.Prelude.{ℕ, ◌+◌, List, sum, sum_by}
use Rattle.deny_krates_trees.specs.declared.node.GraphNode.{GraphNode, fold-GraphNode}
use Rattle.deny_krates_trees.specs.declared.node.GraphNode.TheOpen.{GraphNode-F}

abbrev pub weight_step : GraphNode-F ℕ → ℕ
weight_step node = 2 + sum node.parents

unfoldable pub weight : GraphNode → ℕ
weight = fold-GraphNode ℕ weight_step

-- the measure of a list of trees, with one for its end
abbrev pub list_weight : List GraphNode → ℕ
list_weight graphs = 1 + sum_by weight graphs
