use Rattle.std.proofs.lemmas.Result.{IfOk-weaker, on_err_weaker}
use Rattle.deny_globs.proofs.BuildLemmas.{built_leading, grows_same, grows_push, grows_on}
use Rattle.deny_globs.proofs.compile.push_leading.Goals as goal

pub returns-clause-ok : goal.returns-clause-ok
returns-clause-ok c =
    IfOk-weaker c.push_state-2.result _ _
    (λ n h. built_leading c.requires.program c.requires.next c.in_ok-slash.ensures.ok c.in_ok-folders.ensures.ok h)
    c.push_state-2.ensures.ok

pub returns-clause-err : goal.returns-clause-err
returns-clause-err c =
    on_err_weaker c.push_state-2.result
    (λ e. grows_on c.in_ok-slash.ensures.ok.grows (grows_on (grows_push c.in_ok-folders.ensures.ok) (grows_same e)))
    c.push_state-2.ensures.err
