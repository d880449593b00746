-- The first entry with a span, by its number.
use Rattle.std.proofs.Common.{◌≡◌, ◌<◌, ℕ, Bool, true, false, List, Option, Some, None, ap, length, refl, subst, sym}
use Rattle.std.proofs.Common.{◌∙◌}
use Rattle.std.proofs.Math.Dec.{ltb}
use Rattle.std.specs.Prelude.{IsTrue, cond, find, is_some, option_and_then, slice_get}
use Rattle.std.specs.List.{position_from, position_or_len}
use Rattle.std.specs.Option.{option_or}
use Rattle.deny_base.specs.declared.span.Span.{Span}
use Rattle.deny_spec.specs.Wrappers.{same_span}
use Rattle.std.proofs.lemmas.Bool.{ltb-false}
use Rattle.std.proofs.lemmas.Iterator.Adapters.{position_from-zero}
use Rattle.std.proofs.lemmas.List.Folds.{find_at}
use Rattle.std.proofs.lemmas.Option.{slice_get_past, slice_get_within}

module _ {T : Type 0} (p : T → Bool) (xs : List T) where
  -- the first element that passes is the one at the number of the first that passes
  first_numbered : option_and_then (slice_get xs) (position_from p 0 xs) ≡ find p xs
  first_numbered = ap (option_and_then (slice_get xs)) (sym (position_from-zero p xs))
      ∙ (by_test (ltb (position_or_len p xs) (length xs)) refl ∙ sym (find_at p xs))
    where
      by_test : (within : Bool) → ltb (position_or_len p xs) (length xs) ≡ within
          → option_and_then (slice_get xs) (cond within (Some (position_or_len p xs)) None)
          ≡ slice_get xs (position_or_len p xs)
      by_test true is = refl
      by_test false is =
          sym (slice_get_past xs (position_or_len p xs) (ltb-false (position_or_len p xs) (length xs) is))

  -- the element at the number of the first that passes is the first that passes
  pub at_number : (n : ℕ) → Some n ≡ position_from p 0 xs → slice_get xs n ≡ find p xs
  at_number n is = ap (option_and_then (slice_get xs)) is ∙ first_numbered

  -- the number of the first that passes is within the list
  pub number_within : (n : ℕ) → Some n ≡ position_from p 0 xs → IsTrue (is_some (find p xs)) → n < length xs
  number_within n is there =
      by_item (slice_get xs n) refl (subst (λ (o : Option T). IsTrue (is_some o)) (sym (at_number n is)) there)
    where
      by_item : (o : Option T) → slice_get xs n ≡ o → IsTrue (is_some o) → n < length xs
      by_item None at some = absurd (cc some)
      by_item (Some x) at some = slice_get_within xs n x at

  -- where one element passes, there is a number
  pub has_number : None ≡ position_from p 0 xs → IsTrue (is_some (find p xs)) → ⊥
  has_number none there =
      let nothing : None ≡ find p xs = ap (option_and_then (slice_get xs)) none ∙ first_numbered in
      cc (subst (λ (o : Option T). IsTrue (is_some o)) (sym nothing) there)

-- the numbers of a list that had none before
pub numbered : {T : Type 0} (span_of : T → Span) (span : Span) (items entries : List T) (o held : Option ℕ)
    → o ≡ option_or (position_from (λ e. same_span (span_of e) span) 0 items) held → held ≡ None → items ≡ entries
    → o ≡ position_from (λ e. same_span (span_of e) span) 0 entries
numbered span_of span items entries o held is none same =
    let number = λ (es : List _). position_from (λ e. same_span (span_of e) span) 0 es in
    is ∙ (ap (option_or (number items)) none ∙ (or_none (number items) ∙ ap number same))
  where
    or_none : (n : Option ℕ) → option_or n None ≡ n
    or_none None = refl
    or_none (Some n) = refl
