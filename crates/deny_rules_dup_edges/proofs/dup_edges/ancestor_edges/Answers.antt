use Rattle.std.proofs.Common.{◌<◌, ◌∙◌, List, [], ℕ, length, ap, subst, sym}
use Rattle.std.specs.Prelude.{All}
use Rattle.deny_base_lists.specs.Ascending.{Adds}
use Rattle.deny_base_lists.specs.Walk.{AreThose}
use Rattle.deny_rules_dup_edges.specs.private.EdgeLists.{IsToOne}
use Rattle.deny_rules_dup_edges.proofs.EdgeLemmas.{edges_listed}
use Rattle.deny_base_lists.proofs.WalkLemmas.{nowhere}
use Rattle.deny_rules_dup_edges.proofs.AboveLemmas.{above_inside}
use Rattle.deny_rules_dup_edges.proofs.dup_edges.ancestor_edges.Goals as goal

pub direct_edges-requires : goal.direct_edges-requires
direct_edges-requires c =
    let g = c.args.krates.now in
    subst (λ (reached : List ℕ). All (λ place. place < length g.crates) reached) (sym c.as_slice.ensures)
    (above_inside g c.args.places.now c.reach_above.new.distances c.in_ok-reached.reached c.in_ok-reached.ensures)

pub take_back-requires : goal.take_back-requires
take_back-requires c =
    subst (AreThose c.reach_above.new.distances) (sym c.as_slice-2.ensures) c.in_ok-reached.ensures.those

pub returns-clause-above : goal.returns-clause-above
returns-clause-above c =
    let g = c.args.krates.now in
    edges_listed g c.args.places.now c.reach_above.new.distances c.in_ok-reached.reached c.in_ok-edges.edges
    c.put_in_order.new.list c.krates-orderly.ensures.orderly c.in_ok-reached.ensures
    (subst (λ (reached : List ℕ). Adds
    (IsToOne g reached) [] c.in_ok-edges.edges) c.as_slice.ensures c.in_ok-edges.ensures)
    c.in_ok-put_in_order.ensures.ok

pub returns-clause-unset : goal.returns-clause-unset
returns-clause-unset c = c.take_back.ensures ∙ ap nowhere c.in_ok-reached.ensures.long
