use Rattle.std.proofs.Common.{◌≡◌, ◌++◌, ◌-◌}
use Rattle.std.specs.List.{flat_map, range_with_len}
use Rattle.deny_gate_licenses.specs.private.Counted.{place_if}
use Rattle.deny_gate_licenses.proofs.counted.places_of.Given as goal

abbrev pub invariant-loop-place : goal.invariant-loop-place
invariant-loop-place l =
    l.places ++ flat_map (place_if l.marks) (range_with_len l.place (l.size - l.place))
    ≡ flat_map (place_if l.marks) (range_with_len 0 l.size)
