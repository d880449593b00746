use Rattle.std.proofs.Common.{drop}
use Rattle.deny_diags_build.specs.private.ByText.{PutsBefore}
use Rattle.deny_diags_build.proofs.by_text.ByText.put_before.Given as goal

abbrev pub invariant-loop-number : goal.invariant-loop-number
invariant-loop-number g l = PutsBefore g.T.Shown.shown (drop l.number l.items) l.fn.self l.self
