-- A tree shows the nodes that lead to a node once.
use Rattle.std.specs.Prelude.{◌≡◌, ◌≢◌, ◌++◌, ◌&&◌, Bool, true, false, List, [], ◌∷◌, Option, None, Some, AllPairs}
use Rattle.std.specs.Prelude.{IsTrue, map}
use Rattle.std.specs.List.{flat_map, list_all}
use Rattle.deny_krates.specs.Nodes.{Incoming}
use Rattle.deny_spec.specs.Graph.{Graph}
use Rattle.deny_krates_trees.specs.Tree.{inner_of, node_with}
use Rattle.deny_krates_trees.specs.declared.node.GraphNode.{GraphNode, GraphNode-F, fold-GraphNode}
use Rattle.deny_krates_trees.specs.declared.node.NodeInner.{NodeInner}

abbrev pub unless_repeat : Bool → NodeInner → List NodeInner
unless_repeat true inner = []
unless_repeat false inner = inner ∷ []

abbrev pub expanded_step : GraphNode-F (List NodeInner) → List NodeInner
expanded_step node = unless_repeat node.repeat node.inner ++ flat_map (λ inners. inners) node.parents

-- the nodes that a tree expands, depth first: all but repeats
abbrev pub expanded_in : GraphNode → List NodeInner
expanded_in = fold-GraphNode (List NodeInner) expanded_step

abbrev pub is_empty : {T : Type 0} → List T → Bool
is_empty [] = true
is_empty (x ∷ xs) = false

abbrev pub is_bare : Bool → Bool → Bool
is_bare true empty = empty
is_bare false empty = true

abbrev pub bare_step : GraphNode-F Bool → Bool
bare_step node = is_bare node.repeat (is_empty node.parents) && list_all (λ bare. bare) node.parents

-- whether no repeat has parents
abbrev pub repeats_are_bare : GraphNode → Bool
repeats_are_bare = fold-GraphNode Bool bare_step

-- The nodes that a tree expands are nodes of the graph as they were met, no two of them the same; and no repeat has
-- parents.
pub record ExpandsOnce (g : Graph) (tree : GraphNode) : Type 0 where
  pub sources : List Incoming
  pub are : expanded_in tree ≡ map (inner_of g) sources
  pub once : AllPairs (λ a b. a ≢ b) (map (λ i. i.node) sources)
  pub bare : IsTrue (repeats_are_bare tree)

-- a heading over a tree that expands each node once
pub record HeadsOne (g : Graph) (tree : GraphNode) : Type 0 where
  pub heading : NodeInner
  pub below : GraphNode
  pub is : tree ≡ node_with heading false (below ∷ [])
  pub once : ExpandsOnce g below

-- the tree of a crate, or that of a feature under its heading, expands each node once
abbrev pub ShowsOnce : {F : Type 0} → Graph → Option F → GraphNode → Type 0
ShowsOnce g None tree = ExpandsOnce g tree
ShowsOnce g (Some feature) tree = HeadsOne g tree
