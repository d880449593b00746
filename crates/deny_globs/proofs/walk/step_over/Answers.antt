use Rattle.std.proofs.Common.{true, arith, ap, ◌<◌, ◌∙◌}
use Rattle.std.specs.Prelude.{nat_eq}
use Rattle.deny_globs.specs.Class.{class_takes}
use Rattle.deny_globs.specs.private.Walk.{first_passes}
use Rattle.std.proofs.lemmas.Result.{on_ok_weaker}
use Rattle.deny_globs.specs.declared.state.GlobState.TheVariants.{End, Character, AnyCharacter, OneOf, AnyText, Either}
use Rattle.deny_globs.specs.declared.state.GlobState.TheVariants.{Never}
use Rattle.deny_globs.proofs.MarkedLemmas.{marks_same}
use Rattle.deny_globs.proofs.WalkLemmas.{state_at, steps_over_none, steps_over_character, steps_over_any_character}
use Rattle.deny_globs.proofs.WalkLemmas.{steps_over_class, steps_over_any_text, steps_over_either}
use Rattle.deny_globs.proofs.walk.step_over.Goals as goal

pub mark_if-requires-clause-inside : goal.mark_if-requires-clause-inside
mark_if-requires-clause-inside g c =
    let at = state_at c.args.states.now c.requires.number c.index-states-number.is c.in-Character.is in
    let below : c.in-Character.behind < c.args.number = c.requires.program.points c.args.number
    (Character c.in-Character.own c.in-Character.behind) at in
    omega (arith, below, c.requires.number, c.requires.next)

pub mark_if-requires-in-AnyCharacter-clause-inside :
    goal.mark_if-requires-in-AnyCharacter-clause-inside
mark_if-requires-in-AnyCharacter-clause-inside g c =
    let at = state_at c.args.states.now c.requires.number c.index-states-number.is c.in-AnyCharacter.is in
    let below : c.in-AnyCharacter.behind < c.args.number = c.requires.program.points c.args.number
    (AnyCharacter c.in-AnyCharacter.behind) at in
    omega (arith, below, c.requires.number, c.requires.next)

pub mark_if-requires-in-OneOf-clause-inside : goal.mark_if-requires-in-OneOf-clause-inside
mark_if-requires-in-OneOf-clause-inside g c =
    let at = state_at c.args.states.now c.requires.number c.index-states-number.is c.in-OneOf.is in
    let below : c.in-OneOf.behind < c.args.number = c.requires.program.points c.args.number
    (OneOf c.in-OneOf.class c.in-OneOf.behind) at in
    omega (arith, below, c.requires.number, c.requires.next)

pub mark-requires-clause-inside : goal.mark-requires-clause-inside
mark-requires-clause-inside g c =
    let at = state_at c.args.states.now c.requires.number c.index-states-number.is c.in-AnyText.is in
    let below : c.in-AnyText.behind < c.args.number = c.requires.program.points c.args.number
    (AnyText c.in-AnyText.behind) at in
    omega (arith, below, c.requires.number, c.requires.now)

pub mark-requires-in-Either-clause-inside : goal.mark-requires-in-Either-clause-inside
mark-requires-in-Either-clause-inside g c =
    let at = state_at c.args.states.now c.requires.number c.index-states-number.is c.in-Either.is in
    let below = c.requires.program.points c.args.number (Either c.in-Either.first c.in-Either.second) at in
    let one : c.in-Either.first < c.args.number = below.0 in
    omega (arith, one, c.requires.number, c.requires.now)

pub mark-requires-in-Either-2-clause-inside : goal.mark-requires-in-Either-2-clause-inside
mark-requires-in-Either-2-clause-inside g c =
    let at = state_at c.args.states.now c.requires.number c.index-states-number.is c.in-Either.is in
    let below = c.requires.program.points c.args.number (Either c.in-Either.first c.in-Either.second) at in
    let two : c.in-Either.second < c.args.number = below.1 in
    omega (arith, two, c.requires.number, c.requires.now, c.in_ok-mark-in-Either.ensures.room)

pub returns-in-Character-clause-ok : goal.returns-in-Character-clause-ok
returns-in-Character-clause-ok g c =
    on_ok_weaker c.mark_if.result
    (λ m. steps_over_character (state_at c.args.states.now c.requires.number c.index-states-number.is c.in-Character.is)
    (marks_same c.begins_with.ensures m))
    c.mark_if.ensures.ok

pub returns-in-AnyCharacter-clause-ok : goal.returns-in-AnyCharacter-clause-ok
returns-in-AnyCharacter-clause-ok g c =
    on_ok_weaker c.mark_if-in-AnyCharacter.result
    (λ m. steps_over_any_character
    (state_at c.args.states.now c.requires.number c.index-states-number.is c.in-AnyCharacter.is)
    (marks_same c.has_next.ensures m))
    c.mark_if-in-AnyCharacter.ensures.ok

pub returns-in-OneOf-clause-ok : goal.returns-in-OneOf-clause-ok
returns-in-OneOf-clause-ok g c =
    on_ok_weaker c.mark_if-in-OneOf.result
    (λ m. steps_over_class (state_at c.args.states.now c.requires.number c.index-states-number.is c.in-OneOf.is)
    (marks_same c.begins_of_class.ensures m))
    c.mark_if-in-OneOf.ensures.ok

pub returns-in_ok-mark-in-AnyText-clause-ok : goal.returns-in_ok-mark-in-AnyText-clause-ok
returns-in_ok-mark-in-AnyText-clause-ok g c =
    on_ok_weaker c.mark_if-in-AnyText.result
    (λ m. steps_over_any_text (state_at c.args.states.now c.requires.number c.index-states-number.is c.in-AnyText.is)
    c.in_ok-mark-in-AnyText.ensures.ok (marks_same c.has_next-in-AnyText.ensures m))
    c.mark_if-in-AnyText.ensures.ok

pub returns-in_ok-mark-in-Either-clause-ok : goal.returns-in_ok-mark-in-Either-clause-ok
returns-in_ok-mark-in-Either-clause-ok g c =
    on_ok_weaker c.mark-in-Either-2.result
    (λ m. steps_over_either (state_at c.args.states.now c.requires.number c.index-states-number.is c.in-Either.is)
    c.in_ok-mark-in-Either.ensures.ok m)
    c.mark-in-Either-2.ensures.ok

pub returns-in-End-clause-ok : goal.returns-in-End-clause-ok
returns-in-End-clause-ok g c =
    steps_over_none (End c.in-End._glob)
    (state_at c.args.states.now c.requires.number c.index-states-number.is c.in-End.is) (λ t h. h) (λ d t h. h)

pub returns-in-Never-clause-ok : goal.returns-in-Never-clause-ok
returns-in-Never-clause-ok g c =
    steps_over_none Never (state_at c.args.states.now c.requires.number c.index-states-number.is c.in-Never.is)
    (λ t h. h) (λ d t h. h)

pub returns-in-Character-clause-none : goal.returns-in-Character-clause-none
returns-in-Character-clause-none g c e = c.mark_if.ensures.kept (c.begins_with.ensures
    ∙ ap (first_passes (nat_eq c.in-Character.own)) e)

pub returns-in-AnyCharacter-clause-none : goal.returns-in-AnyCharacter-clause-none
returns-in-AnyCharacter-clause-none g c e = c.mark_if-in-AnyCharacter.ensures.kept (c.has_next.ensures
    ∙ ap (first_passes (λ _. true)) e)

pub returns-in-OneOf-clause-none : goal.returns-in-OneOf-clause-none
returns-in-OneOf-clause-none g c e = c.mark_if-in-OneOf.ensures.kept (c.begins_of_class.ensures
    ∙ ap (first_passes (class_takes c.in-OneOf.class)) e)

pub returns-in_ok-mark-in-AnyText-clause-none : goal.returns-in_ok-mark-in-AnyText-clause-none
returns-in_ok-mark-in-AnyText-clause-none g c e = c.mark_if-in-AnyText.ensures.kept (c.has_next-in-AnyText.ensures
    ∙ ap (first_passes (λ _. true)) e)

pub returns-in-Character-clause-steps : goal.returns-in-Character-clause-steps
returns-in-Character-clause-steps g c = omega (arith, c.mark_if.ensures.steps)

pub returns-in-AnyCharacter-clause-steps : goal.returns-in-AnyCharacter-clause-steps
returns-in-AnyCharacter-clause-steps g c = omega (arith, c.mark_if-in-AnyCharacter.ensures.steps)

pub returns-in-OneOf-clause-steps : goal.returns-in-OneOf-clause-steps
returns-in-OneOf-clause-steps g c = omega (arith, c.mark_if-in-OneOf.ensures.steps)

pub returns-in_err-mark-in-AnyText-clause-steps : goal.returns-in_err-mark-in-AnyText-clause-steps
returns-in_err-mark-in-AnyText-clause-steps g c = omega (arith, c.in_err-mark-in-AnyText.ensures.steps)

pub returns-in_ok-mark-in-AnyText-clause-steps : goal.returns-in_ok-mark-in-AnyText-clause-steps
returns-in_ok-mark-in-AnyText-clause-steps g c =
    omega (arith, c.in_ok-mark-in-AnyText.ensures.steps, c.mark_if-in-AnyText.ensures.steps)

pub returns-in_err-mark-in-Either-clause-steps : goal.returns-in_err-mark-in-Either-clause-steps
returns-in_err-mark-in-Either-clause-steps g c = omega (arith, c.in_err-mark-in-Either.ensures.steps)

pub returns-in_ok-mark-in-Either-clause-steps : goal.returns-in_ok-mark-in-Either-clause-steps
returns-in_ok-mark-in-Either-clause-steps g c =
    omega (arith, c.in_ok-mark-in-Either.ensures.steps, c.mark-in-Either-2.ensures.steps)
