-- The way from a state to the end of a glob, with states appended.
use Rattle.std.proofs.Common.{◌≡◌, ℕ, ◌<◌, ◌≤◌, List, [], ◌∷◌, ◌++◌, length, sym, subst, inl, inr, ◌∙◌, arith}
use Rattle.std.proofs.Common.{length-append}
use Rattle.std.specs.Prelude.{◌⊎◌, Some, slice_get}
use Rattle.std.proofs.lemmas.Bool.{cases_lt}
use Rattle.std.proofs.lemmas.Option.{slice_get_within}
use Rattle.deny_base_lists.proofs.Options.{some_inj}
use Rattle.deny_base_lists.proofs.Indices.{slice_get-append_left, slice_get-push}
use Rattle.deny_globs.specs.declared.state.GlobState.{GlobState}
use Rattle.deny_globs.specs.declared.state.GlobState.TheVariants.{End, Character, AnyCharacter, OneOf, AnyText, Either}
use Rattle.deny_globs.specs.declared.state.GlobState.TheVariants.{Never}
use Rattle.deny_globs.specs.States.{IsAtOnce, IsBehind, Leads, ends, over, aside, PointsBelow}
use Rattle.deny_globs.specs.Compiled.{IsProgram}

-- the states that follow a state are below it, or it is one itself
at_once_below : (n : ℕ) (state : GlobState) (number : ℕ) → PointsBelow n state → IsAtOnce state number → number < n
at_once_below n (End glob) number p h = absurd h
at_once_below n (Character d next) number p h = absurd h
at_once_below n (AnyCharacter next) number p h = absurd h
at_once_below n (OneOf class next) number p h = absurd h
at_once_below n (AnyText next) number p h = omega (arith, p, h)
at_once_below n (Either first second) number p (inl h) = omega (arith, p.0, h)
at_once_below n (Either first second) number p (inr h) = omega (arith, p.1, h)
at_once_below n Never number p h = absurd h

behind_below : (n : ℕ) (state : GlobState) (c number : ℕ) → PointsBelow n state → IsBehind n state c number → number ≤ n
behind_below n (End glob) c number p h = absurd h
behind_below n (Character d next) c number p h = omega (arith, p, h.1)
behind_below n (AnyCharacter next) c number p h = omega (arith, p, h)
behind_below n (OneOf class next) c number p h = omega (arith, p, h.1)
behind_below n (AnyText next) c number p h = omega (arith, h)
behind_below n (Either first second) c number p h = absurd h
behind_below n Never c number p h = absurd h

at_once_in : {states : List GlobState} (number : ℕ) {next : ℕ} {state : GlobState} → IsProgram states
    → slice_get states number ≡ Some state → IsAtOnce state next → next < length states
at_once_in {states} number {next} {state} program at h =
    let below = at_once_below number state next (program.points number state at) h in
    let inside = slice_get_within states number state at in
    omega (arith, below, inside)

behind_in : {states : List GlobState} (number c : ℕ) {next : ℕ} {state : GlobState} → IsProgram states
    → slice_get states number ≡ Some state → IsBehind number state c next → next < length states
behind_in {states} number c {next} {state} program at h =
    let below = behind_below number state c next (program.points number state at) h in
    let inside = slice_get_within states number state at in
    omega (arith, below, inside)

-- appended states do not change where a state leads
pub leads_more : {old : List GlobState} {glob number : ℕ} {cs : List ℕ} (more : List GlobState)
    → Leads old glob number cs
    → Leads (old ++ more) glob number cs
leads_more {old} {glob} {number} more (ends at) = ends
    (slice_get-append_left old more number (slice_get_within old number _ at) ∙ at)
leads_more {old} {glob} {number} more (over state at h l) = over state
    (slice_get-append_left old more number (slice_get_within old number _ at) ∙ at) h (leads_more more l)
leads_more {old} {glob} {number} more (aside state at h l) = aside state
    (slice_get-append_left old more number (slice_get_within old number _ at) ∙ at) h (leads_more more l)

pub leads_before : {old : List GlobState} (more : List GlobState) {glob number : ℕ} {cs : List ℕ} → IsProgram old
    → number < length old → Leads (old ++ more) glob number cs → Leads old glob number cs
leads_before {old} more {glob} {number} program p (ends at) = ends (sym (slice_get-append_left old more number p) ∙ at)
leads_before {old} more {glob} {number} program p (over state at h l) =
    let here = sym (slice_get-append_left old more number p) ∙ at in
    over state here h (leads_before more program (behind_in number _ program here h) l)
leads_before {old} more {glob} {number} program p (aside state at h l) =
    let here = sym (slice_get-append_left old more number p) ∙ at in
    aside state here h (leads_before more program (at_once_in number program here h) l)

-- where a state of each kind leads
pub data Turn (states : List GlobState) (glob number : ℕ) (state : GlobState) : List ℕ → Type 0 where
  ended : state ≡ End glob → Turn states glob number state []
  took : {next c : ℕ} {cs : List ℕ} → IsBehind number state c next → Leads states glob next cs
      → Turn states glob number state (c ∷ cs)
  moved : {next : ℕ} {cs : List ℕ} → IsAtOnce state next → Leads states glob next cs → Turn states glob number state cs

pub turn : {states : List GlobState} {glob number : ℕ} {state : GlobState} {cs : List ℕ}
    → slice_get states number ≡ Some state
    → Leads states glob number cs → Turn states glob number state cs
turn at (ends here) = ended (some_inj (sym at ∙ here))
turn {states} {glob} {number} {state} at (over {next = next} {c = c} other here h l) =
    took (subst (λ k. IsBehind number k c next) (some_inj (sym here ∙ at)) h) l
turn {states} {glob} {number} {state} at (aside {next = next} other here h l) =
    moved (subst (λ k. IsAtOnce k next) (some_inj (sym here ∙ at)) h) l

inside_or_last : (old : List GlobState) (state : GlobState) (n : ℕ) → n < length (old ++ state ∷ [])
    → (n < length old) ⊎ (n ≡ length old)
inside_or_last old state n q = elim (cases_lt n (length old)) [
  | inl less ↦ inl less
  | inr other ↦ inr (omega (arith, q, other, length-append old (state ∷ [])))
]

-- a program with one more state
pub push_program : (old : List GlobState) (state : GlobState) → IsProgram old → PointsBelow (length old) state
    → IsProgram (old ++ state ∷ [])
push_program old state program p = record { points = each } where
  each : (number : ℕ) (other : GlobState) → slice_get (old ++ state ∷ []) number ≡ Some other → PointsBelow number other
  each number other at = elim (inside_or_last old state number (slice_get_within _ number other at)) [
    | inl inside ↦ program.points number other (sym (slice_get-append_left old (state ∷ []) number inside) ∙ at)
    | inr last ↦
        let same : state ≡ other = some_inj (sym (slice_get-push old state)
        ∙ subst (λ n. slice_get (old ++ state ∷ []) n ≡ Some other) last at) in
        subst (λ n. PointsBelow n other) (sym last) (subst (PointsBelow (length old)) same p)
  ]
