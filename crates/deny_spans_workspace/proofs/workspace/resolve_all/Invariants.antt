use Rattle.deny_spans_workspace.proofs.WorkspaceLemmas.{AreKept}
use Rattle.deny_spans_workspace.proofs.workspace.resolve_all.Given as goal

abbrev pub invariant-entries : goal.invariant-entries
invariant-entries l = AreKept l.krates l.registries l.yielded l.spans.items l.unused
