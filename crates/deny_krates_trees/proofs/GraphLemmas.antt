-- The trees of nodes that the graph has, and of nodes that it does not have.
use Rattle.std.proofs.Common.{◌≡◌, ◌∙◌, ◌<◌, ℕ, true, false, List, [], ◌∷◌, Option, None, Some, ap, sym, refl, length}
use Rattle.std.proofs.Common.{slice_get}
use Rattle.std.specs.Prelude.{is_some, option_map}
use Rattle.std.proofs.lemmas.Option.{slice_get-get_or}
use Rattle.deny_base.specs.declared.finding.GraphNode as base
use Rattle.deny_krates.specs.Nodes.{Node, node_at, node_named, nodes_of}
use Rattle.deny_spec.specs.Graph.{Graph}
use Rattle.deny_krates_trees.specs.Tree.{graph_of, headed, headed_tree, inner_at, node_with, tree_of}
use Rattle.deny_krates_trees.specs.declared.node.GraphNode.{GraphNode}
use Rattle.deny_krates_trees.proofs.MetLemmas.{node_at-get_or}

pub headed_tree-crate : (g : Graph) (most : Option ℕ) (node : Node) → node.feature ≡ None
    → tree_of g most node ≡ headed_tree g most node
unfolding headed_tree
headed_tree-crate g most node none = ap (λ f. headed g node.place f (tree_of g most node)) (sym none)

headed-feature : (g : Graph) (place : ℕ) (feature : Option (List ℕ)) (tree : GraphNode) → is_some feature ≡ true
    → node_with (inner_at g place None None) false (tree ∷ []) ≡ headed g place feature tree
headed-feature g place None tree some = cc
headed-feature g place (Some f) tree some = refl

pub headed_tree-feature : (g : Graph) (most : Option ℕ) (node : Node) → is_some node.feature ≡ true
    → node_with (inner_at g node.place None None) false (tree_of g most node ∷ []) ≡ headed_tree g most node
unfolding headed_tree
headed_tree-feature g most node some = headed-feature g node.place node.feature (tree_of g most node) some

pub graph_found : (g : Graph) (most : Option ℕ) (shown : base.GraphNode) (n : ℕ) (feature : Option (List ℕ))
    (tree : GraphNode) → n < length (nodes_of g) → slice_get (nodes_of g) n ≡ node_named g shown.kid.0 feature
    → feature ≡ shown.feature → tree ≡ headed_tree g most (node_at g n) → Some tree ≡ graph_of g most shown
unfolding graph_of
graph_found g most shown n feature tree within found same is =
    let node = node_at g n in
    let there : slice_get (nodes_of g) n ≡ Some node = slice_get-get_or (nodes_of g) n node within
    ∙ ap (λ x. Some x) (sym (node_at-get_or g n node within)) in
    ap (λ t. Some t) is
    ∙ ap (option_map (headed_tree g most)) (sym there ∙ (found ∙ ap (node_named g shown.kid.0) same))

pub no_graph : (g : Graph) (most : Option ℕ) (shown : base.GraphNode) (feature : Option (List ℕ))
    → node_named g shown.kid.0 feature ≡ None → feature ≡ shown.feature → None ≡ graph_of g most shown
unfolding graph_of
no_graph g most shown feature none same =
    ap (option_map (headed_tree g most)) (sym (ap (node_named g shown.kid.0) (sym same) ∙ none))
