use Rattle.std.proofs.Common.{arith, drop, length, length-drop, refl, sym, subst, ◌∙◌, ◌-◌}
use Rattle.std.proofs.lemmas.Result.{on_ok_weaker}
use Rattle.deny_base_lists.proofs.Options.{none_is_no_some, some_inj}
use Rattle.deny_globs.specs.Sets.{AsksFor}
use Rattle.deny_globs.specs.private.Walk.{Notes}
use Rattle.deny_globs.proofs.MarkedLemmas.{take_all}
use Rattle.deny_globs.proofs.WalkLemmas.{notes_same, notes_none}
use Rattle.deny_globs.proofs.set.note_simple.Goals as goal

pub returns-in-Some-clause-notes : goal.returns-in-Some-clause-notes
returns-in-Some-clause-notes g c =
    let path = c.args.path.now in
    let index = c.in-Some.index in
    let same = take_all (drop index path) (length path - index) (omega (arith, length-drop index path)) in
    on_ok_weaker c.note_named.result
    (λ n globs x. notes_same (λ i. (
      λ a. (drop index path, c.in-Some.ensures.found, a),
      λ h. subst (λ m. AsksFor globs i m) (some_inj (sym h.1 ∙ c.in-Some.ensures.found)) h.2,
    ))
    (subst (λ m. Notes (λ i. AsksFor globs i m) c.args.fitting.now c.note_named.new.fitting) same (n globs x)))
    c.note_named.ensures.notes

pub returns-in-Some-clause-steps : goal.returns-in-Some-clause-steps
returns-in-Some-clause-steps g c globs hits d x covers less =
    let path = c.args.path.now in
    let index = c.in-Some.index in
    let same = take_all (drop index path) (length path - index) (omega (arith, length-drop index path)) in
    c.note_named.ensures.steps globs hits d x
    (λ i a. covers i (drop index path, c.in-Some.ensures.found, subst (λ n. AsksFor globs i n) same a)) less

pub returns-in-None-clause-notes : goal.returns-in-None-clause-notes
returns-in-None-clause-notes g c globs x = notes_none refl (λ i h. none_is_no_some (sym c.in-None.ensures.none ∙ h.1))
