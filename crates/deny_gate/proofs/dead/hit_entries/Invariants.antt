use Rattle.std.proofs.Common.{◌≡◌, ◌++◌, drop, map}
use Rattle.deny_gate.specs.Hits.{entry_of}
use Rattle.deny_gate.proofs.dead.hit_entries.Given as goal

abbrev pub invariant-loop-hit : goal.invariant-loop-hit
invariant-loop-hit l = l.entries ++ map entry_of (drop l.hit-index l.hits) ≡ map entry_of l.hits
