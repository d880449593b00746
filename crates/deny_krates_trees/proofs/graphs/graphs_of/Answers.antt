use Rattle.std.proofs.Common.{◌≡◌, ◌∙◌, ℕ, List, [], ◌∷◌, true, false, Option, IfOk, ap, eqb-true, sym, refl, subst}
use Rattle.std.proofs.Common.{length}
use Rattle.std.specs.Prelude.{◌==◌, filter_map, option_copied}
use Rattle.std.proofs.lemmas.List.{nil_from_length}
use Rattle.deny_base.specs.Code.{is_of_path}
use Rattle.deny_base.specs.declared.finding.Diag.{Diag}
use Rattle.deny_base.specs.declared.finding.GraphNode as base
use Rattle.deny_base.specs.declared.span.Kid.{Kid}
use Rattle.deny_spec.specs.Graph.{Graph}
use Rattle.deny_krates_trees.specs.Shown.{crate_shown, depth_shown, graphs_shown, or_else, shown_nodes}
use Rattle.deny_krates_trees.specs.Tree.{graph_of}
use Rattle.deny_krates_trees.specs.declared.node.GraphNode.{GraphNode}
use Rattle.deny_krates_trees.proofs.graphs.graphs_of.Goals as goal

shown_are : (g : Graph) (kid : Option Kid) (diag : Diag) (most : Option ℕ) (nodes : List base.GraphNode)
    → most ≡ depth_shown diag.with_features → nodes ≡ or_else diag.graph_nodes (crate_shown
    (is_of_path diag.key.code) kid)
    → filter_map (graph_of g most) nodes ≡ graphs_shown g kid diag
unfolding graphs_shown shown_nodes
shown_are g kid diag most nodes depth are = ap (λ m. filter_map (graph_of g m) nodes) depth
    ∙ ap (filter_map (graph_of g (depth_shown diag.with_features))) are

own : (nodes others : List base.GraphNode) → false ≡ (length nodes == 0) → nodes ≡ or_else nodes others
own [] others some = cc
own (node ∷ nodes) others some = refl

none : (nodes others : List base.GraphNode) → true ≡ (length nodes == 0) → others ≡ or_else nodes others
none nodes others empty = ap (λ ns. or_else ns others)
    (sym (nil_from_length nodes (eqb-true (length nodes) 0 (sym empty))))

pub returns-then-not-is_empty : goal.returns-then-not-is_empty
returns-then-not-is_empty c =
    let diag = c.args.diag.now in
    let g = c.args.grapher.now.krates.now in
    let kid = option_copied c.args.kid in
    let some = c.if-not-is_empty.ensures ∙ ap (λ (ns : List base.GraphNode). length ns == 0) c.as_slice.ensures in
    subst (λ (ts : List GraphNode). IfOk c.trees_of.result (λ trees. trees ≡ ts))
    (shown_are g kid diag c.depth_shown-most.result c.as_slice-then-not-is_empty.result.now c.depth_shown-most.ensures
    (c.as_slice-then-not-is_empty.ensures ∙ own diag.graph_nodes (crate_shown (is_of_path diag.key.code) kid) some))
    c.trees_of.ensures

pub returns : goal.returns
returns c =
    let diag = c.args.diag.now in
    let g = c.args.grapher.now.krates.now in
    let kid = option_copied c.args.kid in
    let empty = c.if-not-is_empty.ensures ∙ ap (λ (ns : List base.GraphNode). length ns == 0) c.as_slice.ensures in
    let shown = c.as_slice-2.ensures ∙ (c.in_ok-shown.ensures ∙ ap (λ b. crate_shown b kid) c.is_of_path.ensures) in
    subst (λ (ts : List GraphNode). IfOk c.trees_of-2.result (λ trees. trees ≡ ts))
    (shown_are g kid diag c.depth_shown-most.result c.as_slice-2.result.now c.depth_shown-most.ensures
    (shown ∙ none diag.graph_nodes (crate_shown (is_of_path diag.key.code) kid) empty))
    c.trees_of-2.ensures
