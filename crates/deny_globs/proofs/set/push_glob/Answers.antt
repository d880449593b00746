use Rattle.std.proofs.lemmas.Result.{on_ok_weaker}
use Rattle.deny_base_lists.proofs.Results.{on_err_always}
use Rattle.deny_globs.proofs.BuildLemmas.{grows_on, grows_push}
use Rattle.deny_globs.proofs.SetLemmas.{adds_states}
use Rattle.deny_globs.proofs.StartLemmas.{starts_stay}
use Rattle.deny_globs.proofs.set.push_glob.Goals as goal

pub returns-in_err-end-clause-starts : goal.returns-in_err-end-clause-starts
returns-in_err-end-clause-starts c = on_err_always c.from_residual.result (starts_stay c.requires.starts)

pub returns-in_err-start-clause-starts : goal.returns-in_err-start-clause-starts
returns-in_err-start-clause-starts c = on_err_always c.from_residual-in_err-start.result (starts_stay c.requires.starts)

pub returns-clause-grows : goal.returns-clause-grows
returns-clause-grows c = on_err_always c.add_start.result
    (grows_on (grows_push c.in_ok-end.ensures.ok) c.in_ok-start.ensures.ok.grows)

pub returns-clause-ok : goal.returns-clause-ok
returns-clause-ok c =
    on_ok_weaker c.add_start.result
    (λ a. adds_states c.tokens-tokens.ensures.is_glob c.in_ok-end.ensures.ok c.tokens-tokens.ensures.value
    c.in_ok-start.ensures.ok c.as_slice.ensures a)
    c.add_start.ensures.ok
