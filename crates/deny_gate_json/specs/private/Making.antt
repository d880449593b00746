-- The value of a tree while it is built, from the stack of the open nodes.
use Rattle.std.specs.Prelude.{ℕ, ◌+◌, List, [], ◌∷◌, ◌++◌, map, sum_by}
use Rattle.serde_json.specs.Data.{Data}
use Rattle.serde_json.specs.View.{view}
use Rattle.deny_krates_trees.specs.declared.node.GraphNode.{GraphNode, out-GraphNode}
use Rattle.deny_gate_json.specs.Graphs.{graph_value, node_value}
use Rattle.deny_gate_json.specs.declared.graphs.Making.{Making}
use Rattle.deny_gate_json.specs.declared.graphs.StepOutcome.{StepOutcome}
use Rattle.deny_gate_json.specs.declared.graphs.StepOutcome.TheVariants.{Next, Made}
use Rattle.deny_gate_json.specs.private.Weight.{list_weight}

-- the value of a node with these parents
abbrev pub value_with : GraphNode → List Data → Data
value_with graph parents = node_value (out-GraphNode graph).inner parents (out-GraphNode graph).repeat

-- the value of a node whose first parents have their values, and whose others are still to come
abbrev pub making_value : Making → Data
making_value m = value_with m.graph.now (map view m.done.items ++ map graph_value m.rest.now)

-- the value of an open node, given the value of its parent that is open
abbrev pub filled : Making → Data → Data
filled m parent = value_with m.graph.now (map view m.done.items ++ parent ∷ map graph_value m.rest.now)

-- the value of the whole tree, given the value of the parent that the last open node waits for
abbrev pub whole_value : List Making → Data → Data
whole_value [] value = value
whole_value (m ∷ ms) value = filled m (whole_value ms value)

abbrev pub outcome_value : List Making → StepOutcome → Data
outcome_value below (Next top) = whole_value below (making_value top)
outcome_value below (Made value) = view value

-- the work that is left at an open node
abbrev pub making_weight : Making → ℕ
making_weight m = list_weight m.rest.now

abbrev pub outcome_weight : List Making → StepOutcome → ℕ
outcome_weight below (Next top) = sum_by making_weight below + making_weight top
outcome_weight below (Made value) = 0
