use Rattle.std.proofs.Common.{arith, ap, subst, length}
use Rattle.std.proofs.lemmas.Result.{on_ok_weaker}
use Rattle.std.proofs.lemmas.Option.{slice_get_within}
use Rattle.deny_cfg_index.specs.Bucket.{IsNamedAt}
use Rattle.deny_cfg_index.specs.private.Bucket.{numbered, inserted}
use Rattle.deny_cfg_index.specs.private.Bucket.{IsGap}
use Rattle.deny_cfg_index.proofs.bucket.add_name.Goals as goal

pub push_number-requires : goal.push_number-requires
push_number-requires c =
    let at = c.in-Ok.ensures.found in
    omega (arith, slice_get_within c.as_slice.result.now c.in-Ok.index at.named at.at, ap length c.as_slice.ensures)

pub returns-in-Ok-clause-ok : goal.returns-in-Ok-clause-ok
returns-in-Ok-clause-ok c =
    on_ok_weaker c.push_number.result
    (λ n. numbered c.in-Ok.index
    (subst (λ l. IsNamedAt l c.args.name.now c.in-Ok.index) c.as_slice.ensures c.in-Ok.ensures.found) n)
    c.push_number.ensures.ok

pub returns-in-Err-clause-ok : goal.returns-in-Err-clause-ok
returns-in-Err-clause-ok c =
    on_ok_weaker c.insert_name.result
    (λ e. inserted c.in-Err.index
    (subst (λ l. IsGap l c.args.name.now c.in-Err.index) c.as_slice.ensures c.in-Err.ensures.absent) e)
    c.insert_name.ensures.ok
