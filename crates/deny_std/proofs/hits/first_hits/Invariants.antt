use Rattle.std.proofs.Common.{◌≡◌, ◌++◌, drop}
use Rattle.std.specs.Prelude.{filter_map}
use Rattle.deny_std.specs.private.Hits.{hit_at}
use Rattle.deny_std.proofs.hits.first_hits.Given as goal

abbrev pub invariant-loop-entry : goal.invariant-loop-entry
invariant-loop-entry l =
    l.hits ++ filter_map (hit_at l.krates l.witnesses) (drop l.entry-index l.entries)
    ≡ filter_map (hit_at l.krates l.witnesses) l.entries
