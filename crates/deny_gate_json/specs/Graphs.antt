-- Trees as JSON, node by node. A tree shows the nodes that lead to a crate or a feature, so the nodes below one are its
-- parents in the graph.
use Rattle.std.specs.Prelude.{ℕ, Bool, true, false, List, [], ◌∷◌, Option, Some, None, codes}
use Rattle.serde_json.specs.Data.{Data, array, boolean, string, object, Members, member, no_members}
use Rattle.serde_json.specs.View.{items_of}
use Rattle.deny_base.specs.declared.edge.DepKind.{DepKind}
use Rattle.deny_base.specs.declared.edge.DepKind.TheVariants.{Normal, Dev, Build}
use Rattle.deny_krates_trees.specs.declared.node.GraphNode.{GraphNode, fold-GraphNode}
use Rattle.deny_krates_trees.specs.declared.node.GraphNode.TheOpen.{GraphNode-F}
use Rattle.deny_krates_trees.specs.declared.node.NodeInner.{NodeInner}
use Rattle.deny_krates_trees.specs.declared.node.NodeInner.TheVariants.{Krate, Feature}

-- ---- the crate or the feature that a node is

-- the member of the kind of a dependency, which a normal one does not have
abbrev pub kind_member : Option DepKind → Members → Members
kind_member None others = others
kind_member (Some Normal) others = others
kind_member (Some Dev) others = member (codes "kind") (string (codes "dev")) others
kind_member (Some Build) others = member (codes "kind") (string (codes "build")) others

abbrev pub krate_value : List ℕ → List ℕ → Option DepKind → Data
krate_value name version kind = object (kind_member kind
    (member (codes "name") (string name) (member (codes "version") (string version) no_members)))

abbrev pub feature_value : List ℕ → List ℕ → Data
feature_value crate_name name = object
    (member (codes "crate_name") (string crate_name) (member (codes "name") (string name) no_members))

abbrev pub inner_member : NodeInner → Members → Members
inner_member (Krate name version kind) others = member (codes "Krate") (krate_value name version kind) others
inner_member (Feature crate_name name) others = member (codes "Feature") (feature_value crate_name name) others

-- ---- members that are left out where they are empty

abbrev pub parents_member : List Data → Members → Members
parents_member [] others = others
parents_member (parent ∷ parents) others = member (codes "parents") (array (items_of (parent ∷ parents))) others

abbrev pub repeat_member : Bool → Members
repeat_member false = no_members
repeat_member true = member (codes "repeat") (boolean true) no_members

-- ---- trees

abbrev pub node_value : NodeInner → List Data → Bool → Data
node_value inner parents repeat = object (inner_member inner (parents_member parents (repeat_member repeat)))

-- the value of a node, given the values of its parents
abbrev pub graph_step : GraphNode-F Data → Data
graph_step node = node_value node.inner node.parents node.repeat

abbrev pub graph_value : GraphNode → Data
graph_value = fold-GraphNode Data graph_step
