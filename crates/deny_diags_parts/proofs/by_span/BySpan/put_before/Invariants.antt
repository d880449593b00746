use Rattle.std.proofs.Common.{drop}
use Rattle.deny_diags_parts.specs.BySpan.{PutsBefore}
use Rattle.deny_diags_parts.proofs.by_span.BySpan.put_before.Given as goal

abbrev pub invariant-loop-number : goal.invariant-loop-number
invariant-loop-number g l = PutsBefore g.T.HasSpan.span (drop l.number l.items) l.fn.self l.self
