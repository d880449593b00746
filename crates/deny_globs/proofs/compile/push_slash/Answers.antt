use Rattle.std.proofs.lemmas.Result.{IfOk-weaker, on_err_weaker}
use Rattle.deny_globs.proofs.BuildLemmas.{built_character, grows_same}
use Rattle.deny_globs.proofs.compile.push_slash.Goals as goal

pub returns-clause-ok : goal.returns-clause-ok
returns-clause-ok c = IfOk-weaker c.push_state.result _ _ (λ n h. built_character c.requires.program c.requires.next h)
    c.push_state.ensures.ok

pub returns-clause-err : goal.returns-clause-err
returns-clause-err c = on_err_weaker c.push_state.result grows_same c.push_state.ensures.err
