-- The text of trees while it is written, and the text that is left.
use Rattle.std.specs.Prelude.{ℕ, Bool, true, false, List, [], ◌∷◌, ◌++◌, Option, Some, None, codes, map}
use Rattle.serde_json.specs.Data.{array, string}
use Rattle.serde_json.specs.View.{items_of}
use Rattle.serde_json.specs.Written.{compact_text, items_text}
use Rattle.deny_base.specs.Code.{diagnostic_code_name}
use Rattle.deny_base.specs.declared.code.DiagnosticCode.{DiagnosticCode}
use Rattle.deny_krates_trees.specs.declared.node.GraphNode.{GraphNode}
use Rattle.deny_krates_trees.specs.declared.node.NodeInner.{NodeInner}
use Rattle.deny_krates_trees.specs.declared.node.NodeInner.TheVariants.{Krate, Feature}
use Rattle.deny_gate_json.specs.Graphs.{feature_value, graph_value, krate_value}
use Rattle.deny_gate_json.specs.declared.graph_text.Waiting.{Waiting}
use Rattle.deny_gate_json.specs.private.Weight.{list_weight}

-- the text of a list of trees
abbrev pub graphs_text : List GraphNode → List ℕ
graphs_text graphs = compact_text (array (items_of (map graph_value graphs)))

-- the text of a node up to the crate or the feature that it is
abbrev pub head_text : NodeInner → List ℕ
head_text (Krate name version kind) = codes "{\"Krate\":" ++ compact_text (krate_value name version kind)
head_text (Feature crate_name name) = codes "{\"Feature\":" ++ compact_text (feature_value crate_name name)

-- the text of a node behind its parents
abbrev pub end_text : Bool → List ℕ
end_text false = codes "}"
end_text true = codes ",\"repeat\":true}"

-- the text of trees that wait, with the end of their list and the text behind it
abbrev pub waiting_text : Waiting → List ℕ
waiting_text w = items_text w.later (items_of (map graph_value w.graphs.now)) ++ w.after.now

-- the text of all that waits: the last of the stack comes first
abbrev pub all_text : List Waiting → List ℕ
all_text [] = []
all_text (w ∷ ws) = all_text ws ++ waiting_text w

-- the work that is left for trees that wait
abbrev pub waiting_weight : Waiting → ℕ
waiting_weight w = list_weight w.graphs.now

-- the code of a diagnostic, where it has one
abbrev pub code_text : Option DiagnosticCode → List ℕ
code_text None = []
code_text (Some code) = codes "\"code\":" ++ (compact_text (string (diagnostic_code_name code)) ++ codes ",")
