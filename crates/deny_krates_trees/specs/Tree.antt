-- The tree of a node: the nodes that lead to it, grown depth first. A node that was met before is marked as a repeat,
-- and the nodes above it are not shown again.
use Rattle.std.specs.Prelude.{ℕ, zero, suc, Bool, true, false, List, [], ◌∷◌, length, Option, None, Some, option_map}
use Rattle.std.specs.List.{list_any}
use Rattle.std.specs.Option.{option_map_or}
use Rattle.semver.specs.Identifiers.{parts_text}
use Rattle.deny_base.specs.declared.edge.DepKind.{DepKind}
use Rattle.deny_base.specs.declared.edge.DepKind.TheVariants.{Normal, Dev, Build}
use Rattle.deny_base.specs.declared.finding.GraphNode as base
use Rattle.deny_krates.specs.Nodes.{Incoming, Node, node_named, nodes_of}
use Rattle.deny_spec.specs.Graph.{Graph}
use Rattle.deny_spec.specs.DiagParts.{crate_at, crate_name_at}
use Rattle.deny_krates_trees.specs.Parents.{parents_in, same_node}
use Rattle.deny_krates_trees.specs.declared.node.GraphNode.{GraphNode, roll-GraphNode}
use Rattle.deny_krates_trees.specs.declared.node.NodeInner.{NodeInner}
use Rattle.deny_krates_trees.specs.declared.node.NodeInner.TheVariants.{Krate, Feature}

abbrev pub node_with : NodeInner → Bool → List GraphNode → GraphNode
node_with inner repeat parents = roll-GraphNode (record { inner = inner; repeat = repeat; parents = parents })

-- ---- how a node is shown

-- the kind that is shown: a normal one is not
abbrev pub shown_kind : Option DepKind → Option DepKind
shown_kind None = None
shown_kind (Some Normal) = None
shown_kind (Some Dev) = Some Dev
shown_kind (Some Build) = Some Build

abbrev pub version_text_at : Graph → ℕ → List ℕ
version_text_at g place = option_map_or (λ c. parts_text c.version) (crate_at g place) []

-- how a node is shown: a crate, with the kind of the dependency by which it is met, or a feature
abbrev pub inner_at : Graph → ℕ → Option (List ℕ) → Option DepKind → NodeInner
inner_at g place None kind = Krate (crate_name_at g place) (version_text_at g place) (shown_kind kind)
inner_at g place (Some feature) kind = Feature (crate_name_at g place) feature

unfoldable pub inner_of : Graph → Incoming → NodeInner
inner_of g i = inner_at g i.node.place i.node.feature i.kind

-- the root of a tree, which is met by no dependency
abbrev pub start : Node → Incoming
start node = record { node = node; kind = None }

-- ---- trees

-- a tree, and the nodes that were met by its end
pub record GrownTree : Type 0 where
  pub tree : GraphNode
  pub met : List Node

pub record GrownTrees : Type 0 where
  pub trees : List GraphNode
  pub met : List Node

unfoldable pub is_met : List Node → Node → Bool
is_met met node = list_any (same_node node) met

abbrev pub no_trees : List Node → GrownTrees
no_trees met = record { trees = []; met = met }

abbrev pub put_first : GraphNode → GrownTrees → GrownTrees
put_first tree others = record { trees = tree ∷ others.trees; met = others.met }

-- a tree, and then others, which are grown from the nodes that were met by its end
abbrev pub followed_by : GrownTree → (List Node → GrownTrees) → GrownTrees
followed_by first others = put_first first.tree (others first.met)

abbrev pub repeated : Graph → List Node → Incoming → GrownTree
repeated g met i = record { tree = node_with (inner_of g i) true []; met = met }

abbrev pub expanded : Graph → Incoming → GrownTrees → GrownTree
expanded g i parents = record { tree = node_with (inner_of g i) false parents.trees; met = parents.met }

module _ (g : Graph) (above : List Node → Node → GrownTrees) where
  -- the tree of a node, by whether it was met before, where `above` grows the nodes above a node
  abbrev pub grow_one : Bool → List Node → Incoming → GrownTree
  grow_one true met i = repeated g met i
  grow_one false met i = expanded g i (above (i.node ∷ met) i.node)

  -- the trees of some nodes, one after the other
  unfoldable pub grow_each : List Node → List Incoming → GrownTrees
  grow_each met [] = no_trees met
  grow_each met (i ∷ is) = followed_by (grow_one (is_met met i.node) met i) (λ more. grow_each more is)

-- the trees above a node of this depth, grown so many levels high
unfoldable pub grow : Graph → Option ℕ → ℕ → ℕ → List Node → Node → GrownTrees
grow g most zero depth met node = no_trees met
grow g most (suc levels) depth met node =
    grow_each g (grow g most levels (suc depth)) met (parents_in g most depth node)

-- a level for each node, and one more, are enough: each holds a node that none below it holds
abbrev pub all_levels : Graph → ℕ
all_levels g = suc (length (nodes_of g))

-- the tree of a node, grown so many levels high
abbrev pub tree_to : Graph → Option ℕ → ℕ → Node → GraphNode
tree_to g most levels node = (expanded g (start node) (grow g most levels 0 (node ∷ []) node)).tree

-- The tree of a node. Features are shown above the nodes of lesser depths than the bound, or above all nodes.
unfoldable pub tree_of : Graph → Option ℕ → Node → GraphNode
tree_of g most node = (expanded g (start node) (grow g most (all_levels g) 0 (node ∷ []) node)).tree

-- a tree under its heading: that of a feature is put under its crate
abbrev pub headed : Graph → ℕ → Option (List ℕ) → GraphNode → GraphNode
headed g place None tree = tree
headed g place (Some feature) tree = node_with (inner_at g place None None) false (tree ∷ [])

unfoldable pub headed_tree : Graph → Option ℕ → Node → GraphNode
headed_tree g most node = headed g node.place node.feature (tree_of g most node)

-- the tree that is shown of a crate or of an enabled feature, if the graph has it
unfoldable pub graph_of : Graph → Option ℕ → base.GraphNode → Option GraphNode
graph_of g most shown = option_map (headed_tree g most) (node_named g shown.kid.0 shown.feature)
