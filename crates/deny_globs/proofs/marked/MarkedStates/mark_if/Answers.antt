use Rattle.std.proofs.lemmas.Result.{on_ok_weaker}
use Rattle.deny_globs.proofs.MarkedLemmas.{marks_if_yes}
use Rattle.deny_globs.proofs.marked.MarkedStates.mark_if.Goals as goal

pub returns-then-test-clause-ok : goal.returns-then-test-clause-ok
returns-then-test-clause-ok g c = on_ok_weaker c.mark.result (marks_if_yes c.if-test.true) c.mark.ensures.ok
