-- The result of `get`.
use Rattle.std.proofs.Common.{◌≡◌, ◌<◌, ◌≤◌, ℕ, List, Option, Some, None, length, sym, ap, ◌∙◌}
use Rattle.std.specs.Prelude.{MatchOption, option_copied, slice_get}
use Rattle.std.specs.Borrow.{Bor}
use Rattle.std.specs.List.{HoldsAt}
use Rattle.std.proofs.lemmas.Option.{slice_get_past, slice_get-get_or}

-- the result of `get` is the item at the index
pub got : {A : Type 0} (xs : List A) (n : ℕ) (r : Option (Bor A))
    → MatchOption r (length xs ≤ n) (λ x. (n < length xs) × HoldsAt (λ y. x.now ≡ y) xs n)
    → option_copied r ≡ slice_get xs n
got xs n None past = sym (slice_get_past xs n past)
got xs n (Some x) at = sym (slice_get-get_or xs n x.now at.0 ∙ ap (λ y. Some y) (sym (at.1 x.now)))

pub match_none : {A : Type 0} (P : Type 0) (Q : A → Type 0) (r : Option A) → r ≡ None → P → MatchOption r P Q
match_none P Q None is holds = holds
match_none P Q (Some x) is holds = absurd (some-none is)
  where
    some-none : Some x ≡ None → ⊥
    some-none e = absurd (cc)
