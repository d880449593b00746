use Rattle.std.proofs.Common.{subst}
use Rattle.std.proofs.lemmas.Result.{IfOk-weaker, on_err_weaker}
use Rattle.deny_globs.specs.declared.token.Token.TheVariants.{OneOf}
use Rattle.deny_globs.specs.private.Compiled.{IsBuilt}
use Rattle.std.specs.Prelude.{[], ◌∷◌}
use Rattle.deny_globs.proofs.BuildLemmas.{built_class, grows_same}
use Rattle.deny_globs.proofs.compile.push_class.Goals as goal

pub returns-clause-ok : goal.returns-clause-ok
returns-clause-ok c =
    IfOk-weaker c.push_state.result _ _
    (λ n h. subst (λ k. IsBuilt (OneOf k ∷ []) c.args.next c.args.states.now.items c.push_state.new.states.items n)
    c.in_ok-own.ensures
    (built_class c.requires.program c.requires.next h))
    c.push_state.ensures.ok

pub returns-clause-err : goal.returns-clause-err
returns-clause-err c = on_err_weaker c.push_state.result grows_same c.push_state.ensures.err
