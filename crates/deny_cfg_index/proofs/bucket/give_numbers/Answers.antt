use Rattle.std.proofs.Common.{arith, ap, length, subst, sym, ◌∙◌}
use Rattle.std.proofs.lemmas.Result.{on_ok_weaker, on_err_weaker}
use Rattle.deny_base_lists.specs.Prefix.{IsPrefix}
use Rattle.deny_cfg_index.specs.private.Bucket.{numbers_of}
use Rattle.deny_cfg_index.specs.private.Index.{GivesNumbers}
use Rattle.deny_base_lists.proofs.SearchLemmas.{named_at}
use Rattle.deny_cfg_index.proofs.IndexLemmas.{gives_named, gives_first, gives_none, bound_named, bound_none}
use Rattle.deny_cfg_index.proofs.bucket.give_numbers.Goals as goal

pub returns-in-Ok-clause-ok : goal.returns-in-Ok-clause-ok
returns-in-Ok-clause-ok g c =
    let named = c.index-bucket-index.result in
    let at = named_at c.in-Ok.ensures.found c.index-bucket-index.is in
    let same = c.as_slice.ensures ∙ ap numbers_of (sym c.index-bucket-index.is) in
    on_ok_weaker c.give_all.result
    (λ e. subst (GivesNumbers c.args.bucket.now c.args.name.now) (sym (e ∙ same))
    (gives_named c.in-Ok.index named at.0 at.1))
    c.give_all.ensures.ok

pub returns-in-Ok-clause-err : goal.returns-in-Ok-clause-err
returns-in-Ok-clause-err g c =
    let named = c.index-bucket-index.result in
    let at = named_at c.in-Ok.ensures.found c.index-bucket-index.is in
    let same = c.as_slice.ensures ∙ ap numbers_of (sym c.index-bucket-index.is) in
    on_err_weaker c.give_all.result
    (λ p. gives_first c.in-Ok.index named at.0 at.1
    (subst (λ l. IsPrefix l c.give_all.new.numbers.items) same p))
    c.give_all.ensures.err

pub returns-in-Ok-clause-steps : goal.returns-in-Ok-clause-steps
returns-in-Ok-clause-steps g c =
    let named = c.index-bucket-index.result in
    let at = named_at c.in-Ok.ensures.found c.index-bucket-index.is in
    let same = c.as_slice.ensures ∙ ap numbers_of (sym c.index-bucket-index.is) in
    bound_named c.in-Ok.index c.args.steps.now c.find_name.new.steps c.give_all.new.steps named at.0 at.1
    c.find_name.ensures.steps (omega (arith, c.give_all.ensures.steps, ap length same))

pub returns-in-Err-clause-ok : goal.returns-in-Err-clause-ok
returns-in-Err-clause-ok g c =
    subst (GivesNumbers c.args.bucket.now c.args.name.now) (sym c.requires.empty)
    (gives_none c.in-Err._index c.in-Err.ensures.absent)

pub returns-in-Err-clause-steps : goal.returns-in-Err-clause-steps
returns-in-Err-clause-steps g c = bound_none c.args.steps.now c.find_name.new.steps c.find_name.ensures.steps
