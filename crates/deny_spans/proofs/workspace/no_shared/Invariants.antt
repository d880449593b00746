use Rattle.deny_spans_workspace.proofs.WorkspaceLemmas.{AreNone}
use Rattle.deny_spans.proofs.workspace.no_shared.Given as goal

abbrev pub invariant-loop : goal.invariant-loop
invariant-loop l = AreNone l.index l.spans.items
