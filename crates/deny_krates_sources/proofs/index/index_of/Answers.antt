use Rattle.std.proofs.Common.{◌≡◌, ◌<◌, ◌∙◌, ap, inr, sym, true, false, length, map, take, arith}
use Rattle.std.specs.Prelude.{is_some}
use Rattle.std.specs.List.{list_any}
use Rattle.deny_spec.specs.Text.{same_text}
use Rattle.deny_krates_sources.specs.Checked.{distinct_after}
use Rattle.deny_krates_sources.specs.private.Index.{hash_of, number_by}
use Rattle.deny_krates_sources.proofs.IndexLemmas.{asked_by, ids_next, ids_more, ids_end, ids_length, any_numbered}
use Rattle.deny_krates_sources.proofs.IndexLemmas.{index_more, stood_before, is_new, no_more_ids}
use Rattle.deny_krates_sources.proofs.index.index_of.Goals as goal

pub returns-then-contains_key-clause-distinct : goal.returns-then-contains_key-clause-distinct
returns-then-contains_key-clause-distinct g c =
    let id_of = g.T.Identified.id_of in
    let things = c.args.things.now in
    let number = c.loop-number.number in
    let before = map id_of (take number things) in
    let id = id_of c.index-things-number.result in
    let next = ids_next id_of things number c.index-things-number.result (omega (arith, c.loop-number-test.true))
    c.index-things-number.is in
    let asked : is_some (number_by c.loop-number.index id) ≡ true = sym (asked_by is_some c.loop-number.index
    c.hashed-key.result.hash c.hashed-key.result.id.now id _ (c.hashed-key.ensures.hash ∙ ap hash_of c.id-id.ensures)
    (c.hashed-key.ensures.id ∙ c.id-id.ensures) c.contains_key.ensures) ∙ c.if-contains_key.true in
    let stood : list_any (same_text id) before ≡ true = sym (any_numbered id 0 before)
    ∙ (ap is_some (sym (c.loop-number.invariant.index.at id)) ∙ asked) in
    rw (c.in_ok-from_str.ensures, c.id-id.ensures)
    (inr (c.loop-number.invariant.distinct ∙ (ap (distinct_after before) next ∙ stood_before before _ id stood)))

pub loop-number-preserved : goal.loop-number-preserved
loop-number-preserved g c =
    let id_of = g.T.Identified.id_of in
    let things = c.args.things.now in
    let number = c.loop-number.number in
    let before = map id_of (take number things) in
    let id = id_of c.index-things-number.result in
    let inside : number < length things = omega (arith, c.loop-number-test.true) in
    let next = ids_next id_of things number c.index-things-number.result inside c.index-things-number.is in
    let more = ids_more id_of things number c.index-things-number.result inside c.index-things-number.is in
    let hash = c.hashed-key.ensures.hash ∙ ap hash_of c.id-id.ensures in
    let text = c.hashed-key.ensures.id ∙ c.id-id.ensures in
    let asked : is_some (number_by c.loop-number.index id) ≡ false = sym (asked_by is_some c.loop-number.index
    c.hashed-key.result.hash c.hashed-key.result.id.now id _ hash text c.contains_key.ensures)
    ∙ c.if-contains_key.false in
    let fresh : list_any (same_text id) before ≡ false = sym (any_numbered id 0 before)
    ∙ (ap is_some (sym (c.loop-number.invariant.index.at id)) ∙ asked) in
    let last : number ≡ length before = sym (ids_length id_of things number (omega arith)) in
    rw more record {
      index = index_more c.loop-number.index c.insert.new.self before c.hashed-key.result.hash
          c.hashed-key.result.id.now id number hash text c.loop-number.invariant.index fresh last
          c.in_ok-insert.ensures.updates;
      distinct = c.loop-number.invariant.distinct ∙ (ap (distinct_after before) next ∙ is_new before _ id fresh);
    }

pub returns-clause-distinct : goal.returns-clause-distinct
returns-clause-distinct g c =
    c.loop-number.invariant.distinct
    ∙ (ap (λ ids. distinct_after (map g.T.Identified.id_of (take c.loop-number.number c.args.things.now)) ids)
    (ids_end g.T.Identified.id_of c.args.things.now c.loop-number.number (omega (arith, c.loop-number-test.false)))
    ∙ no_more_ids _)
