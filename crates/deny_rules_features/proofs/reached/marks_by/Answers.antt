use Rattle.std.proofs.Common.{[], length, ◌∙◌}
use Rattle.std.specs.Prelude.{Contains, slice_index_or}
use Rattle.std.proofs.lemmas.Result.{IfOk-weaker}
use Rattle.deny_base_lists.specs.Walk.{AreMarks}
use Rattle.deny_rules_features.specs.private.Steps.{leads_by, roots_by}
use Rattle.deny_rules_features.proofs.ReachedLemmas.{marks_are, roots_in, stays_in}
use Rattle.deny_rules_features.proofs.reached.marks_by.Goals as goal

pub reach-requires-clause-inside : goal.reach-requires-clause-inside
reach-requires-clause-inside c =
    stays_in c.args.features.now c.args.names.now c.args.numbers.now c.requires.named c.requires.numbered
    c.in_ok-rows.rows c.in_ok-rows.ensures

pub reach-requires-clause-roots : goal.reach-requires-clause-roots
reach-requires-clause-roots c =
    roots_in c.args.features.now c.args.names.now c.args.numbers.now c.requires.named c.requires.numbered
    c.in_ok-rows.rows c.as_slice.result.now c.args.listed.now c.in_ok-rows.ensures
    (c.as_slice.ensures ∙ c.in_ok-roots.ensures)

pub returns : goal.returns
returns c =
    let features = c.args.features.now in
    let numbers = c.args.numbers.now in
    let names = c.args.names.now in
    let listed = c.args.listed.now in
    let rows = c.in_ok-rows.rows in
    let starts = c.as_slice.result.now in
    IfOk-weaker c.reach.result (AreMarks (λ n. Contains (slice_index_or rows n [])) (length rows) starts)
    (AreMarks (leads_by features numbers names) (length names) (roots_by numbers listed))
    (λ marks marked. marks_are features names numbers c.requires.named c.requires.numbered rows starts listed marks
    c.in_ok-rows.ensures (c.as_slice.ensures ∙ c.in_ok-roots.ensures) marked) c.reach.ensures
