use Rattle.std.proofs.Common.{◌≡◌, ◌∙◌, ℕ, List, Bool, true, false, Option, None, IfOk, ap, sym, subst, map}
use Rattle.deny_krates.specs.Nodes.{Incoming, Node, incoming_at, node_at}
use Rattle.deny_spec.specs.Graph.{Graph}
use Rattle.deny_krates_trees.specs.Parents.{dependents_in, is_below, parents_if, parents_in}
use Rattle.deny_krates_trees.proofs.parents.parents_of.Goals as goal

parents_in-is : (g : Graph) (most : Option ℕ) (depth : ℕ) (node : Node) (b : Bool) → b ≡ is_below most depth
    → parents_if b g node ≡ parents_in g most depth node
unfolding parents_in
parents_in-is g most depth node b is = ap (λ x. parents_if x g node) is

dependents_in-place : (g : Graph) (node : Node) (place : ℕ) → place ≡ node.place
    → dependents_in g (record { place = place; feature = None }) ≡ dependents_in g node
unfolding dependents_in
dependents_in-place g node place is = ap (λ p. dependents_in g (record { place = p; feature = None })) is

pub returns-then-is_below-clause-parents : goal.returns-then-is_below-clause-parents
returns-then-is_below-clause-parents c =
    let g = c.args.krates.now in
    let node = node_at g c.args.node.0 in
    subst (λ (is : List Incoming). IfOk c.incoming.result (λ edges. map (incoming_at g) edges ≡ is))
    (parents_in-is g c.args.most c.args.depth node true (sym c.if-is_below.true ∙ c.is_below.ensures))
    c.incoming.ensures.sources

pub returns-else-is_below-clause-parents : goal.returns-else-is_below-clause-parents
returns-else-is_below-clause-parents c =
    let g = c.args.krates.now in
    let node = node_at g c.args.node.0 in
    subst (λ (is : List Incoming). IfOk c.dependents_of.result (λ edges. map (incoming_at g) edges ≡ is))
    (dependents_in-place g node c.node_place.result c.node_place.ensures.place
    ∙ parents_in-is g c.args.most c.args.depth node false (sym c.if-is_below.false ∙ c.is_below.ensures))
    c.dependents_of.ensures.parents
