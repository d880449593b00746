use Rattle.std.proofs.Common.{drop}
use Rattle.deny_diags.specs.private.EntryNumbers.{NumbersBefore}
use Rattle.deny_diags.proofs.entry_numbers.EntryNumbers.put_list.Given as goal

abbrev pub invariant-loop-number : goal.invariant-loop-number
invariant-loop-number g l = NumbersBefore g.T.HasSpan.span l.list l.number (drop l.number l.entries) l.fn.self l.self
