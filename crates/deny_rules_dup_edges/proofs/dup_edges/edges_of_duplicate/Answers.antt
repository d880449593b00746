use Rattle.std.proofs.Common.{List, Contains, sym, subst}
use Rattle.std.specs.Prelude.{All}
use Rattle.deny_base.specs.declared.edge.Edge.{Edge}
use Rattle.deny_rules_dup_edges.proofs.EdgeLemmas.{above_hold}
use Rattle.deny_rules_dup_edges.proofs.dup_edges.edges_of_duplicate.Goals as goal

pub sets_of-requires-clause-hold : goal.sets_of-requires-clause-hold
sets_of-requires-clause-hold c =
    let g = c.args.krates.now in
    let edges = c.in_ok-edges.edges in
    subst (λ (es : List Edge). All (λ e. Contains g.edges e) es) (sym c.as_slice.ensures)
    (above_hold g c.as_slice-places.result.now edges c.in_ok-edges.ensures.above)
