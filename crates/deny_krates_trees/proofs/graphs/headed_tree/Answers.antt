use Rattle.std.proofs.Common.{◌≡◌, ◌∙◌, List, [], ◌∷◌, ◌++◌, Option, None, Some, true, false, IfOk, ap, sym, refl}
use Rattle.std.proofs.Common.{subst}
use Rattle.std.specs.Prelude.{is_some, option_copied}
use Rattle.std.specs.Borrow.{Bor}
use Rattle.deny_krates.specs.Nodes.{node_at}
use Rattle.deny_krates_trees.specs.Tree.{inner_at, node_with, tree_of}
use Rattle.deny_krates_trees.specs.declared.node.GraphNode.{GraphNode}
use Rattle.deny_krates_trees.proofs.GraphLemmas.{headed_tree-crate, headed_tree-feature}
use Rattle.deny_krates_trees.proofs.graphs.headed_tree.Goals as goal

copied_none : {T : Type 0} (o : Option (Bor T)) → is_some o ≡ false → None ≡ option_copied o
copied_none None is = refl
copied_none (Some x) is = cc

copied_some : {T : Type 0} (o : Option (Bor T)) → is_some o ≡ true → is_some (option_copied o) ≡ true
copied_some None is = cc
copied_some (Some x) is = refl

pub returns-then-is_none : goal.returns-then-is_none
returns-then-is_none c =
    let g = c.args.krates.now in
    let node = node_at g c.args.node.0 in
    subst (λ (t : GraphNode). IfOk c.tree_of.result (λ tree. tree ≡ t))
    (headed_tree-crate g c.args.most node (sym (copied_none c.node_feature.result c.if-is_none.ensures
    ∙ c.node_feature.ensures)))
    c.tree_of.ensures

pub returns : goal.returns
returns c =
    let g = c.args.krates.now in
    let node = node_at g c.args.node.0 in
    let tree = tree_of g c.args.most node in
    let parents : c.push_tree.new.trees ≡ tree ∷ [] = c.in_ok-push_tree.ensures
    ∙ (ap (λ (ts : List GraphNode). ts ++ c.in_ok-tree.tree ∷ []) c.new-parents.ensures
    ∙ ap (λ t. t ∷ []) c.in_ok-tree.ensures) in
    let inner = c.in_ok-inner.ensures ∙ ap (λ p. inner_at g p None None) c.node_place.ensures.place in
    ap (λ i. node_with i false c.push_tree.new.trees) inner
    ∙ (ap (node_with (inner_at g node.place None None) false) parents
    ∙ headed_tree-feature g c.args.most node (ap is_some (sym c.node_feature.ensures)
    ∙ copied_some c.node_feature.result c.if-is_none.ensures))
