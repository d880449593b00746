use Rattle.std.proofs.Common.{◌≡◌, ◌++◌, drop}
use Rattle.std.specs.List.{flat_map}
use Rattle.deny_rules_crates.specs.private.WrappedEdges.{wrapped_edges_at}
use Rattle.deny_rules_crates.proofs.hits.wrapped_edges_of.Given as goal

abbrev pub invariant-loop-place : goal.invariant-loop-place
invariant-loop-place l =
    l.edges ++ flat_map (wrapped_edges_at l.krates l.spans) (drop l.place-index l.places) ≡ flat_map
    (wrapped_edges_at l.krates l.spans) l.places
