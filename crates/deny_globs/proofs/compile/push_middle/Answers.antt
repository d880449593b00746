use Rattle.std.proofs.lemmas.Result.{IfOk-weaker, on_err_weaker}
use Rattle.deny_globs.proofs.BuildLemmas.{built_on, built_middle, grows_on}
use Rattle.deny_globs.proofs.compile.push_middle.Goals as goal

pub returns-clause-ok : goal.returns-clause-ok
returns-clause-ok c =
    IfOk-weaker c.push_slash.result _ _ (λ n h. built_middle (built_on c.in_ok-folders.ensures.ok h))
    c.push_slash.ensures.ok

pub returns-clause-err : goal.returns-clause-err
returns-clause-err c = on_err_weaker c.push_slash.result (λ g. grows_on c.in_ok-folders.ensures.ok.grows g)
    c.push_slash.ensures.err
