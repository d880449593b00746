use Rattle.std.proofs.Common.{arith}
use Rattle.std.proofs.lemmas.Result.{IfOk-weaker}
use Rattle.deny_base_lists.proofs.Results.{on_err_always, on_err_then}
use Rattle.deny_globs.proofs.BuildLemmas.{built_character, built_any_character, built_any_text, built_alternatives}
use Rattle.deny_globs.proofs.BuildLemmas.{built_beside, built_next, built_back, built_for, built_over_same, grows_on}
use Rattle.deny_globs.proofs.BuildLemmas.{grows_same}
use Rattle.deny_globs.proofs.compile.+compile.Goals as goal

pub compile-loop-token-preserved : goal.compile-loop-token-preserved
compile-loop-token-preserved t c = built_back c.in-Some.ensures.steps c.loop-token.invariant c.in_ok-start.ensures.ok

pub compile_alternative-returns-clause-ok : goal.compile_alternative-returns-clause-ok
compile_alternative-returns-clause-ok t c =
    IfOk-weaker c.push_state.result _ _
    (λ n h. built_beside c.requires.program c.requires.others c.in_ok-own.ensures.ok h) c.push_state.ensures.ok

pub compile_alternative-returns-clause-err : goal.compile_alternative-returns-clause-err
compile_alternative-returns-clause-err t c =
    on_err_then c.push_state.result c.push_state.ensures.err
    (λ e. grows_on c.in_ok-own.ensures.ok.grows (grows_same e))

pub compile_one-returns-in_err-start-2-clause-err :
    goal.compile_one-returns-in_err-start-2-clause-err
compile_one-returns-in_err-start-2-clause-err t c =
    on_err_always c.from_residual-in_err-start-2.result
    (grows_on c.loop-alternative.invariant.grows c.in_err-start-2.ensures.err)

pub compile_one-loop-alternative-preserved : goal.compile_one-loop-alternative-preserved
compile_one-loop-alternative-preserved t c =
    built_next c.args.alternatives.now c.requires.program c.requires.next (omega arith) c.alternative-item.is
    c.loop-alternative.invariant c.in_ok-start-2.ensures.ok

pub compile_token-returns-in-Character-clause-ok :
    goal.compile_token-returns-in-Character-clause-ok
compile_token-returns-in-Character-clause-ok t c =
    IfOk-weaker c.push_state.result _ _
    (λ n h. built_for c.in-Character.is (built_character c.requires.program c.requires.next h))
    c.push_state.ensures.ok

pub compile_token-returns-in-Character-clause-err : goal.compile_token-returns-in-Character-clause-err
compile_token-returns-in-Character-clause-err t c =
    on_err_then c.push_state.result c.push_state.ensures.err grows_same

pub compile_token-returns-in-AnyCharacter-clause-ok :
    goal.compile_token-returns-in-AnyCharacter-clause-ok
compile_token-returns-in-AnyCharacter-clause-ok t c =
    IfOk-weaker c.push_state-in-AnyCharacter.result _ _
    (λ n h. built_for c.in-AnyCharacter.is (built_any_character c.requires.program c.requires.next h))
    c.push_state-in-AnyCharacter.ensures.ok

pub compile_token-returns-in-AnyCharacter-clause-err : goal.compile_token-returns-in-AnyCharacter-clause-err
compile_token-returns-in-AnyCharacter-clause-err t c =
    on_err_then c.push_state-in-AnyCharacter.result c.push_state-in-AnyCharacter.ensures.err grows_same

pub compile_token-returns-in-AnyText-clause-ok : goal.compile_token-returns-in-AnyText-clause-ok
compile_token-returns-in-AnyText-clause-ok t c =
    IfOk-weaker c.push_state-in-AnyText.result _ _
    (λ n h. built_for c.in-AnyText.is (built_any_text c.requires.program c.requires.next h))
    c.push_state-in-AnyText.ensures.ok

pub compile_token-returns-in-AnyText-clause-err : goal.compile_token-returns-in-AnyText-clause-err
compile_token-returns-in-AnyText-clause-err t c =
    on_err_then c.push_state-in-AnyText.result c.push_state-in-AnyText.ensures.err grows_same

pub compile_token-returns-in-Alternatives-clause-ok :
    goal.compile_token-returns-in-Alternatives-clause-ok
compile_token-returns-in-Alternatives-clause-ok t c =
    IfOk-weaker c.compile_one.result _ _
    (λ n h. built_for c.in-Alternatives.is (built_alternatives (built_over_same c.as_slice.ensures h)))
    c.compile_one.ensures.ok
