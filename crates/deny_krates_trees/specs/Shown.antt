-- The trees that a finding shows of the graph.
use Rattle.std.specs.Prelude.{ℕ, Bool, true, false, List, [], ◌∷◌, Option, None, Some, filter_map}
use Rattle.deny_base.specs.Code.{is_of_path}
use Rattle.deny_base.specs.declared.finding.Diag.{Diag}
use Rattle.deny_base.specs.declared.finding.GraphNode.{GraphNode}
use Rattle.deny_base.specs.declared.span.Kid.{Kid}
use Rattle.deny_spec.specs.Graph.{Graph}
use Rattle.deny_krates_trees.specs.Tree.{graph_of}
use Rattle.deny_krates_trees.specs.declared.node.GraphNode as tree

-- the crate of a finding, unless the finding is about a path
abbrev pub crate_shown : Bool → Option Kid → List GraphNode
crate_shown is_of_path None = []
crate_shown true (Some kid) = []
crate_shown false (Some kid) = record { kid = kid; feature = None } ∷ []

-- the first list, unless it is empty, or else the second
abbrev pub or_else : List GraphNode → List GraphNode → List GraphNode
or_else [] others = others
or_else (node ∷ nodes) others = node ∷ nodes

-- the nodes that are shown with a finding about this crate, or about no single one
unfoldable pub shown_nodes : Option Kid → Diag → List GraphNode
shown_nodes kid diag = or_else diag.graph_nodes (crate_shown (is_of_path diag.key.code) kid)

-- the bound of depths below which features are shown: none, or 0
abbrev pub depth_shown : Bool → Option ℕ
depth_shown true = None
depth_shown false = Some 0

-- a tree for each of these nodes that the graph has
unfoldable pub graphs_shown : Graph → Option Kid → Diag → List tree.GraphNode
graphs_shown g kid diag = filter_map (graph_of g (depth_shown diag.with_features)) (shown_nodes kid diag)
