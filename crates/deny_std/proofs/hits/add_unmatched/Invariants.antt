use Rattle.std.proofs.Common.{◌≡◌, ◌++◌, drop}
use Rattle.deny_std.specs.private.Hits.{unmatched_in}
use Rattle.deny_std.proofs.hits.add_unmatched.Given as goal

abbrev pub invariant-loop-entry : goal.invariant-loop-entry
invariant-loop-entry l =
    l.unmatched ++ unmatched_in l.witnesses (drop l.entry-index l.entries)
    ≡ l.fn.unmatched ++ unmatched_in l.witnesses l.entries
