use Rattle.std.proofs.Common.{arith, ap, subst, length}
use Rattle.std.proofs.lemmas.Result.{on_ok_weaker}
use Rattle.std.proofs.lemmas.Option.{slice_get_within}
use Rattle.deny_globs.specs.Index.{IsNamedAt}
use Rattle.deny_globs.specs.private.Index.{numbered, inserted}
use Rattle.deny_globs.specs.private.Index.{IsGap}
use Rattle.deny_globs.proofs.extensions.add_extension.Goals as goal

pub push_number-requires : goal.push_number-requires
push_number-requires c =
    let at = c.in-Ok.ensures.found in
    omega (arith, slice_get_within c.deref.result.now c.in-Ok.index at.named at.at, ap length c.deref.ensures.value)

pub returns-in-Ok-clause-ok : goal.returns-in-Ok-clause-ok
returns-in-Ok-clause-ok c =
    on_ok_weaker c.push_number.result
    (λ n. numbered c.in-Ok.index
    (subst (λ l. IsNamedAt l c.args.name.now c.in-Ok.index) c.deref.ensures.value c.in-Ok.ensures.found) n)
    c.push_number.ensures.ok

pub returns-in-Err-clause-ok : goal.returns-in-Err-clause-ok
returns-in-Err-clause-ok c =
    on_ok_weaker c.insert_extension.result
    (λ e. inserted c.in-Err.index
    (subst (λ l. IsGap l c.args.name.now c.in-Err.index) c.deref.ensures.value c.in-Err.ensures.absent) e)
    c.insert_extension.ensures.ok
