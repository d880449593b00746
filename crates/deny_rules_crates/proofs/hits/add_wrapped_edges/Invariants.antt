use Rattle.std.proofs.Common.{◌≡◌, ◌++◌, drop}
use Rattle.std.specs.Prelude.{filter_map}
use Rattle.deny_rules_crates.specs.private.WrappedEdges.{wrapped_edge_at}
use Rattle.deny_rules_crates.proofs.hits.add_wrapped_edges.Given as goal

abbrev pub invariant-loop-parent : goal.invariant-loop-parent
invariant-loop-parent l =
    l.edges ++ filter_map (wrapped_edge_at l.krates l.spans l.place)
    (drop l.parent-index l.parents) ≡ l.fn.edges ++ filter_map (wrapped_edge_at l.krates l.spans l.place) l.parents
