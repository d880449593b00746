use Rattle.std.proofs.Common.{◌<◌, ◌^◌, ℕ, List, length, sym, subst}
use Rattle.std.specs.Prelude.{All}
use Rattle.deny_base.specs.declared.edge.Edge.{Edge}
use Rattle.deny_krates_graph.specs.private.OtherLinks.{AreOtherLinks}
use Rattle.deny_krates_graph.specs.private.Reach.{AreReached, links_at}
use Rattle.deny_krates_sources.specs.declared.checked.ResolvedNode.{ResolvedNode}
use Rattle.deny_krates_graph.proofs.FilteredLemmas.{marks_are, ways_inside}
use Rattle.deny_base_lists.proofs.Results.{if_ok_then}
use Rattle.deny_krates_graph.proofs.filtered.reached_without.Goals as goal

pub reach-requires-clause-few : goal.reach-requires-clause-few
reach-requires-clause-few c =
    subst (λ (rs : List ResolvedNode). length rs < 2 ^ 28) (sym c.as_slice.ensures)
    (subst (λ (n : ℕ). n < 2 ^ 28) (sym c.in_ok-rows.ensures.long) c.requires.few)

pub reach-requires-clause-links : goal.reach-requires-clause-links
reach-requires-clause-links c node =
    subst (λ (rs : List ResolvedNode). All (λ l. l.node < length rs) (links_at rs node)) (sym c.as_slice.ensures)
    (ways_inside c.args.kind c.args.edges.now c.args.crates c.in_ok-rows.rows c.in_ok-rows.ensures c.requires.children
    node)

pub returns : goal.returns
returns c =
    if_ok_then c.reach.result c.reach.ensures (λ marks reached g members edges long.
    marks_are c.args.kind g c.in_ok-rows.rows
    (subst (λ (n : ℕ). AreOtherLinks c.args.kind g.edges n c.in_ok-rows.rows) (sym long)
    (subst (λ (es : List Edge). AreOtherLinks c.args.kind es c.args.crates c.in_ok-rows.rows) (sym edges)
    c.in_ok-rows.ensures))
    (subst (λ (n : ℕ). All (λ e. e.parent < n) g.edges) (sym long)
    (subst (λ (es : List Edge). All (λ e. e.parent < c.args.crates) es) (sym edges) c.requires.parents))
    marks
    (subst (λ (ms : List ℕ). AreReached c.in_ok-rows.rows ms marks) (sym members)
    (subst (λ (rs : List ResolvedNode). AreReached rs c.args.members.now marks) c.as_slice.ensures reached)))
