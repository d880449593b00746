use Rattle.std.proofs.Common.{◌≡◌, ◌++◌, drop, map, filter_map}
use Rattle.deny_spec.specs.DiagParts.{crate_at, node_of}
use Rattle.deny_diags.proofs.duplicates.nodes_at.Given as goal

abbrev pub invariant-loop-place : goal.invariant-loop-place
invariant-loop-place l =
    l.nodes ++ map node_of (filter_map (crate_at l.krates) (drop l.place-index l.places)) ≡ map node_of
    (filter_map (crate_at l.krates) l.places)
