use Rattle.std.proofs.Common.{◌≡◌, take}
use Rattle.std.specs.List.{flat_map}
use Rattle.deny_gate_licenses.specs.private.Witnesses.{unused_at}
use Rattle.deny_gate_licenses.proofs.entries.unused_unordered.Given as goal

abbrev pub invariant-loop-by : goal.invariant-loop-by
invariant-loop-by l = l.unused ≡ flat_map (unused_at l.witnesses) (take l.by-index l.granters)
