-- A tree that is partly grown: nodes whose parents are still to be grown, the root first.
use Rattle.std.specs.Prelude.{◌≡◌, ◌<◌, ◌≤◌, ℕ, suc, ◌+◌, ◌-◌, ◌*◌, ◌^◌, ◌++◌, false, List, [], ◌∷◌, All, Option, Some}
use Rattle.std.specs.Prelude.{drop, length, map, sum_by}
use Rattle.std.specs.List.Sorted.{IsStrictlySortedBy}
use Rattle.std.specs.List.{list_any}
use Rattle.std.specs.BTreeMap.{is_at}
use Rattle.std.specs.Ordering.{nat_cmp}
use Rattle.deny_krates.specs.Nodes.{Incoming, Node, incoming_at, node_at, nodes_of}
use Rattle.deny_krates.specs.krate.DirectDependent.{DirectDependent}
use Rattle.deny_krates.specs.declared.nodes.InEdge.{InEdge}
use Rattle.deny_spec.specs.Graph.{Graph}
use Rattle.deny_krates_trees.specs.Tree.{GrownTrees, all_levels, grow, grow_each, inner_of, is_met, no_trees, node_with}
use Rattle.deny_krates_trees.specs.Parents.{parents_in}
use Rattle.deny_krates_trees.specs.declared.build.Open.{Open}
use Rattle.deny_krates_trees.specs.declared.node.GraphNode.{GraphNode}

-- the trees above a node of this depth, with the levels that are left there
unfoldable pub grow_at : Graph → Option ℕ → ℕ → List Node → Node → GrownTrees
grow_at g most depth = grow g most (all_levels g - depth) depth

abbrev pub still_open : Graph → Open → List Incoming
still_open g node = map (incoming_at g) (drop node.next node.parents)

-- the tree of an open node, given the trees of its parent that is open and of those that are still to be met
abbrev pub closed : Open → List GraphNode → GrownTrees → GrownTrees
closed node above rest =
    record { trees = node_with node.inner false ((node.grown ++ above) ++ rest.trees) ∷ []; met = rest.met }

abbrev pub close : Graph → Option ℕ → ℕ → Open → GrownTrees → GrownTrees
close g most depth node above = closed node above.trees (grow_each g (grow_at g most depth) above.met
    (still_open g node))

-- the trees that open nodes grow to, given the depth of the lowest
unfoldable pub grown_from : Graph → Option ℕ → ℕ → List Open → List Node → GrownTrees
grown_from g most depth [] met = no_trees met
grown_from g most depth (node ∷ nodes) met = close g most (suc depth) node (grown_from g most (suc depth) nodes met)

-- a direct dependent as an edge that ends at the crate's node
abbrev pub edge_from : DirectDependent → InEdge
edge_from d = record { node = record { 0 = d.place }; kind = Some d.kind }

abbrev pub IsInside : Graph → InEdge → Type 0
IsInside g edge = edge.node.0 < length (nodes_of g)

-- the numbers are those of the nodes that were met
pub record AreMet (g : Graph) (numbers : List ℕ) (met : List Node) : Type 0 where
  pub same : (n : ℕ) → n < length (nodes_of g) → is_met met (node_at g n) ≡ list_any (is_at (nat_cmp n)) numbers

-- open nodes and the numbers of met nodes are within a graph, and no more nodes are open than were met
pub record AreOpen (g : Graph) (numbers : List ℕ) (nodes : List Open) : Type 0 where
  pub ascend : IsStrictlySortedBy nat_cmp numbers
  pub inside : All (λ n. n < length (nodes_of g)) numbers
  pub parents : All (λ node. All (IsInside g) node.parents) nodes
  pub short : All (λ node. length node.parents < 2 ^ 64) nodes
  pub low : length nodes ≤ length numbers

-- the open nodes grow to these trees
pub record GrowTo (g : Graph) (most : Option ℕ) (whole : GrownTrees) (numbers : List ℕ)
    (nodes : List Open) : Type 0 where
  pub met : List Node
  pub are_met : AreMet g numbers met
  pub grown : grown_from g most 0 nodes met ≡ whole

-- the trees that open nodes grow to stay the same
abbrev pub GoesOn : Graph → Option ℕ → List ℕ → List Open → List ℕ → List Open → Type 0
GoesOn g most numbers nodes numbers' nodes' = (whole : GrownTrees) → GrowTo g most whole numbers nodes
    → GrowTo g most whole numbers' nodes'

-- the open nodes grow to this tree alone
abbrev pub GrowToTree : Graph → Option ℕ → List ℕ → List Open → GraphNode → Type 0
GrowToTree g most numbers nodes tree =
    (whole : GrownTrees) → GrowTo g most whole numbers nodes → whole.trees ≡ tree ∷ []

-- the work that is left: a node that was not met weighs more than all parents of a node
abbrev pub left_of : Open → ℕ
left_of node = (length node.parents - node.next) + 1

unfoldable pub work : Graph → List ℕ → List Open → ℕ
work g numbers nodes = (length (nodes_of g) - length numbers) * 2 ^ 65 + sum_by left_of nodes

-- a step from open nodes and met nodes to others: the trees stay the same, and less work is left
pub record Advances (g : Graph) (most : Option ℕ) (numbers : List ℕ) (nodes : List Open) (numbers' : List ℕ)
    (nodes' : List Open) : Type 0 where
  pub open_nodes : AreOpen g numbers' nodes'
  pub some : 0 < length nodes'
  pub goes_on : GoesOn g most numbers nodes numbers' nodes'
  pub less : work g numbers' nodes' < work g numbers nodes

-- a node is opened from an edge: none of its parents is grown yet
pub record IsOpened (g : Graph) (most : Option ℕ) (depth : ℕ) (edge : InEdge) (opened : Open) : Type 0 where
  pub inner : opened.inner ≡ inner_of g (incoming_at g edge)
  pub parents : map (incoming_at g) opened.parents ≡ parents_in g most depth (node_at g edge.node.0)
  pub inside : All (IsInside g) opened.parents
  pub short : length opened.parents < 2 ^ 64
  pub next : opened.next ≡ 0
  pub grown : opened.grown ≡ []
