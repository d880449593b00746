use Rattle.std.proofs.Common.{◌≡◌, ◌∙◌, [], ◌∷◌, ◌++◌, List, Option, None, Some, ap, append_assoc, refl, sym, take}
use Rattle.std.specs.Prelude.{filter_map}
use Rattle.std.specs.Option.{option_to_list}
use Rattle.std.proofs.lemmas.List.{take_more}
use Rattle.std.proofs.lemmas.List.Elements.{filter_map-append}
use Rattle.deny_krates_trees.specs.Tree.{graph_of}
use Rattle.deny_krates_trees.specs.declared.node.GraphNode.{GraphNode}
use Rattle.deny_krates_trees.proofs.graphs.add_trees.Goals as goal

filter_map-one : {X Y : Type 0} (f : X → Option Y) (x : X) → filter_map f (x ∷ []) ≡ option_to_list (f x)
filter_map-one {X} {Y} f x = by_case (f x)
  where
    by_case : (o : Option Y) → filter_map (λ y. o) (x ∷ []) ≡ option_to_list o
    by_case None = refl
    by_case (Some y) = refl

pub loop-node-preserved : goal.loop-node-preserved
loop-node-preserved c =
    let f = graph_of c.args.krates.now c.args.most in
    let shown = c.args.shown.now in
    let i = c.loop-node.node-index in
    let node = c.node-item.result in
    let before = take i shown in
    let more = take_more shown i node c.loop-node-test.true ∙ ap (λ x. before ++ x ∷ []) (sym c.node-item.is) in
    let tree = c.in_ok-tree.tree in
    c.in_ok-push_shown.ensures
    ∙ (ap (λ (ts : List GraphNode). ts ++ option_to_list tree) c.loop-node.invariant
    ∙ (append_assoc c.args.trees.now (filter_map f before) (option_to_list tree)
    ∙ ap (λ ts. c.args.trees.now ++ ts) (sym (ap (filter_map f) more ∙ (filter_map-append f before (node ∷ [])
    ∙ ap (λ ts. filter_map f before ++ ts) (filter_map-one f node ∙ ap option_to_list (sym c.in_ok-tree.ensures)))))))
