use Rattle.std.proofs.Common.{◌≡◌, ◌++◌, drop}
use Rattle.std.specs.Prelude.{filter_map}
use Rattle.deny_rules_crates.specs.private.EntryHits.{entry_hit}
use Rattle.deny_rules_crates.proofs.hits.add_entry_hits.Given as goal

abbrev pub invariant-loop-entry : goal.invariant-loop-entry
invariant-loop-entry l =
    l.hits ++ filter_map (entry_hit l.krates l.kind) (drop l.entry-index l.entries) ≡ l.fn.hits ++ filter_map
    (entry_hit l.krates l.kind) l.entries
