use Rattle.std.proofs.Common.{◌≡◌, ◌++◌, map, take}
use Rattle.deny_std.specs.private.Diags.{unmatched_pack}
use Rattle.deny_std.proofs.diags.report_unmatched.Given as goal

abbrev pub invariant-loop-entry : goal.invariant-loop-entry
invariant-loop-entry l = l.sink ≡ l.fn.sink ++ map (unmatched_pack l.id) (take l.entry-index l.entries)
