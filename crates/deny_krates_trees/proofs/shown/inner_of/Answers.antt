use Rattle.std.proofs.Common.{◌≡◌, ◌∙◌, ℕ, List, Option, Some, None, IfOk, ap, subst}
use Rattle.deny_krates.specs.Nodes.{Incoming, incoming_at}
use Rattle.deny_spec.specs.Graph.{Graph}
use Rattle.deny_spec.specs.DiagParts.{crate_name_at}
use Rattle.deny_krates_trees.specs.Tree.{inner_at, inner_of}
use Rattle.deny_krates_trees.specs.declared.node.NodeInner.{NodeInner}
use Rattle.deny_krates_trees.specs.declared.node.NodeInner.TheVariants.{Feature}
use Rattle.deny_krates_trees.proofs.shown.inner_of.Goals as goal

inner_is : (g : Graph) (i : Incoming) (place : ℕ) (feature : Option (List ℕ)) → place ≡ i.node.place
    → feature ≡ i.node.feature → inner_at g place feature i.kind ≡ inner_of g i
unfolding inner_of
inner_is g i place feature here there =
    ap (λ p. inner_at g p feature i.kind) here ∙ ap (λ f. inner_at g i.node.place f i.kind) there

pub returns-in_ok-from_str-in-Some : goal.returns-in_ok-from_str-in-Some
returns-in_ok-from_str-in-Some c =
    let g = c.args.krates.now in
    let place = c.node_place-place.result in
    let text = c.in_ok-from_str-in-Some.field-0 in
    ap (λ name. Feature name text) c.in_ok-name_of-in-Some.ensures
    ∙ (ap (λ t. Feature (crate_name_at g place) t) c.in_ok-from_str-in-Some.ensures
    ∙ inner_is g (incoming_at g c.args.edge) place (Some c.in-Some.feature.now) c.node_place-place.ensures.place
    c.in-Some.ensures)

pub returns-in-None : goal.returns-in-None
returns-in-None c =
    let g = c.args.krates.now in
    let i = incoming_at g c.args.edge in
    subst (λ (x : NodeInner). IfOk c.krate_inner.result (λ inner. inner ≡ x))
    (inner_is g i c.node_place-place.result None c.node_place-place.ensures.place c.in-None.ensures)
    c.krate_inner.ensures
