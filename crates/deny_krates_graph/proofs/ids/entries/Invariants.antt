use Rattle.std.proofs.Common.{◌≡◌, ◌++◌, drop}
use Rattle.deny_krates_graph.specs.IdEntries.{entries_from}
use Rattle.deny_krates_graph.proofs.ids.entries.Given as goal

abbrev pub invariant-loop-place : goal.invariant-loop-place
invariant-loop-place l = l.entries ++ entries_from l.place (drop l.place l.krates) ≡ entries_from 0 l.krates
