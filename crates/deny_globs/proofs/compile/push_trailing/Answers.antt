use Rattle.std.proofs.lemmas.Result.{IfOk-weaker, on_err_weaker}
use Rattle.deny_globs.proofs.BuildLemmas.{built_any_text, built_on, built_trailing, grows_push, grows_on}
use Rattle.deny_globs.proofs.compile.push_trailing.Goals as goal

pub returns-clause-ok : goal.returns-clause-ok
returns-clause-ok c =
    IfOk-weaker c.push_slash.result _ _
    (λ n h. built_trailing (built_on (built_any_text c.requires.program c.requires.next c.in_ok-below.ensures.ok) h))
    c.push_slash.ensures.ok

pub returns-clause-err : goal.returns-clause-err
returns-clause-err c =
    on_err_weaker c.push_slash.result (λ g. grows_on (grows_push c.in_ok-below.ensures.ok) g) c.push_slash.ensures.err

pub push_slash-requires-clause-program : goal.push_slash-requires-clause-program
push_slash-requires-clause-program
    c = (built_any_text c.requires.program c.requires.next c.in_ok-below.ensures.ok).program

pub push_slash-requires-clause-next : goal.push_slash-requires-clause-next
push_slash-requires-clause-next
    c = (built_any_text c.requires.program c.requires.next c.in_ok-below.ensures.ok).in_range
