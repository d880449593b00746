-- Small cases of trees as JSON worked out, so that the definitions can be read against texts.
use Rattle.std.proofs.Common.{◌≡◌, ◌∙◌, ◌++◌, true, false, [], ◌∷◌, codes, Some, None, ap, refl}
use Rattle.serde_json.proofs.OnLiterals.{serde_json_on_literals}
use Rattle.serde_json.specs.Data.{Data}
use Rattle.serde_json.specs.Written.{compact_text}
use Rattle.deny_base.specs.declared.edge.DepKind.TheVariants.{Normal, Dev, Build}
use Rattle.deny_krates_trees.specs.Tree.{node_with}
use Rattle.deny_krates_trees.specs.declared.node.GraphNode.{GraphNode}
use Rattle.deny_krates_trees.specs.declared.node.NodeInner.{NodeInner}
use Rattle.deny_krates_trees.specs.declared.node.NodeInner.TheVariants.{Krate, Feature}
use Rattle.deny_gate_json.specs.Graphs.{graph_value, node_value}
use Rattle.deny_gate_json.proofs.GraphLemmas.{value_of_node}

abbrev pub app_inner : NodeInner
app_inner = Krate (codes "app") (codes "0.1.0") None

abbrev pub x_inner : NodeInner
x_inner = Krate (codes "x") (codes "1.0.0") None

abbrev pub app : GraphNode
app = node_with app_inner false []

-- a crate on which `app` depends
abbrev pub x : GraphNode
x = node_with x_inner false (app ∷ [])

abbrev pub x_json : Data
x_json = node_value x_inner (node_value app_inner [] false ∷ []) false

pub x_value : graph_value x ≡ x_json
x_value = value_of_node x_inner false (app ∷ [])
    ∙ ap (λ (d : Data). node_value x_inner (d ∷ []) false) (value_of_node app_inner false [])

pub has_a_parent : compact_text (graph_value x)
    ≡ codes "{\"Krate\":{\"name\":\"x\",\"version\":\"1.0.0\"},\"parents\":["
    ++ codes "{\"Krate\":{\"name\":\"app\",\"version\":\"0.1.0\"}}]}"
unfolding serde_json_on_literals
has_a_parent = ap compact_text x_value

-- a repeat of a crate with a dev dependency
pub is_a_repeat : compact_text (graph_value (node_with (Krate (codes "a") (codes "1.0.0") (Some Dev)) true []))
    ≡ codes "{\"Krate\":{\"kind\":\"dev\",\"name\":\"a\",\"version\":\"1.0.0\"},\"repeat\":true}"
unfolding serde_json_on_literals
is_a_repeat = ap compact_text (value_of_node (Krate (codes "a") (codes "1.0.0") (Some Dev)) true [])

pub builds : compact_text (node_value (Krate (codes "a") (codes "1.0.0") (Some Build)) [] false)
    ≡ codes "{\"Krate\":{\"kind\":\"build\",\"name\":\"a\",\"version\":\"1.0.0\"}}"
unfolding serde_json_on_literals
builds = refl

-- a normal dependency has no kind
pub is_normal : node_value (Krate (codes "a") (codes "1.0.0") (Some Normal)) [] false
    ≡ node_value (Krate (codes "a") (codes "1.0.0") None) [] false
is_normal = refl

-- a feature with a crate that asks for it; quotes in a name are escaped
pub is_a_feature : compact_text (graph_value (node_with (Feature (codes "x") (codes "\"std\"")) false (app ∷ [])))
    ≡ codes "{\"Feature\":{\"crate_name\":\"x\",\"name\":\"\\\"std\\\"\"},\"parents\":["
    ++ codes "{\"Krate\":{\"name\":\"app\",\"version\":\"0.1.0\"}}]}"
unfolding serde_json_on_literals
is_a_feature =
    ap compact_text (value_of_node (Feature (codes "x") (codes "\"std\"")) false (app ∷ [])
    ∙ ap (λ (d : Data). node_value (Feature (codes "x") (codes "\"std\"")) (d ∷ []) false)
    (value_of_node app_inner false []))
