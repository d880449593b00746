use Rattle.std.proofs.Common.{◌≡◌, take}
use Rattle.std.specs.List.{flat_map}
use Rattle.deny_gate_licenses.specs.private.Witnesses.{hits_at}
use Rattle.deny_gate_licenses.proofs.entries.hits_of.Given as goal

abbrev pub invariant-loop-by : goal.invariant-loop-by
invariant-loop-by l = l.hits ≡ flat_map (hits_at l.krates l.witnesses) (take l.by-index l.granters)
