use Rattle.std.proofs.Common.{ap, subst, ◌∙◌}
use Rattle.std.proofs.lemmas.Result.{on_ok_weaker, on_err_weaker}
use Rattle.deny_cfg_index.specs.Index.{bucket_at}
use Rattle.deny_cfg_index.specs.Names.{AreNumbers, AreFirstNumbers, KeepsBound}
use Rattle.deny_cfg_index.proofs.IndexLemmas.{bucket_of_hash}
use Rattle.deny_cfg_index.proofs.spec_index.find_numbers.Goals as goal

pub returns-clause-ok : goal.returns-clause-ok
returns-clause-ok g c =
    let inside = c.index.inside in
    let bucket = bucket_of_hash c.index.invariant
    (c.bucket_at.ensures ∙ ap (bucket_at inside.buckets) c.hash_of.ensures) in
    on_ok_weaker c.give_numbers.result
    (λ gives. subst (λ ns. AreNumbers ns c.args.name.now c.give_numbers.new.numbers.items) c.index.view_is
    (gives inside.names bucket))
    c.give_numbers.ensures.ok

pub returns-clause-err : goal.returns-clause-err
returns-clause-err g c =
    let inside = c.index.inside in
    let bucket = bucket_of_hash c.index.invariant
    (c.bucket_at.ensures ∙ ap (bucket_at inside.buckets) c.hash_of.ensures) in
    on_err_weaker c.give_numbers.result
    (λ gives. subst (λ ns. AreFirstNumbers ns c.args.name.now c.give_numbers.new.numbers.items) c.index.view_is
    (gives inside.names bucket))
    c.give_numbers.ensures.err

pub returns-clause-steps : goal.returns-clause-steps
returns-clause-steps g c =
    let inside = c.index.inside in
    let bucket = bucket_of_hash c.index.invariant
    (c.bucket_at.ensures ∙ ap (bucket_at inside.buckets) c.hash_of.ensures) in
    subst (λ ns. KeepsBound ns c.args.name.now c.args.steps.now c.give_numbers.new.steps) c.index.view_is
    (c.give_numbers.ensures.steps inside.names bucket)
