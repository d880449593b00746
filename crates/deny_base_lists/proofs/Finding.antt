-- What a search finds: a member of the list, the first that passes a test, and the first among the indices of a name.
use Rattle.std.proofs.Common.{◌≡◌, List, [], ◌∷◌, Bool, true, false, Some, subst, ◌<◌, ℕ, zero, suc, refl, ap, ◌∙◌, ◌+◌}
use Rattle.std.proofs.Common.{arith, None, ◌≤◌, Option, map, sym, inl, inr}
use Rattle.std.specs.Prelude.{Contains, cond, find, slice_get, ◌==◌, IsTrue, ◌↔◌, option_and_then}
use Rattle.std.proofs.lemmas.Option.{none-some, same_Some}
use Rattle.std.specs.List.{list_any}
use Rattle.std.proofs.lemmas.Bool.Decides.{Decides-eqb}
use Rattle.std.specs.List.Sorted.{IsStrictlyIncreasing, IsStrictlySortedBy}
use Rattle.std.specs.Option.{option_map_or}
use Rattle.std.specs.Ordering.{nat_cmp}
use Rattle.std.specs.declared.cmp.Ordering.TheVariants.{Less}
use Rattle.std.proofs.lemmas.Bool.{cases_Bool, cases_lt}
use Rattle.std.proofs.lemmas.Map.Keys.{sorted_from_strictly_increasing}
use Rattle.deny_base_lists.proofs.Members.{Contains-first, Contains-rest, any_from, any_passes, Contains-by_cases, at_member}
use Rattle.deny_base_lists.proofs.Members.{map_at, no_member}
use Rattle.deny_base_lists.proofs.Agreement.{same_test}
use Rattle.deny_base_lists.proofs.Options.{some_from_passes}
use Rattle.deny_base_lists.proofs.Numbers.{less_from_nat_cmp}

-- what a search finds is a member of the list
pub found_member : {A : Type 0} (p : A → Bool) (xs : List A) (x : A) → find p xs ≡ Some x → Contains xs x
found_member p [] x is = absurd (none-some x is)
found_member {A} p (y ∷ xs) x is = by_test (p y) (found_member p xs x) is
  where
    by_test : (b : Bool) → (find p xs ≡ Some x → Contains xs x) → cond b (Some y) (find p xs) ≡ Some x
        → Contains (y ∷ xs) x
    by_test true rest is = subst (λ (z : A). Contains (y ∷ xs) z) (same_Some y x is) (Contains-first y xs)
    by_test false rest is = Contains-rest y xs x (rest is)

-- the element at an index is the first that passes, where it passes and none before it does
pub find-at : {E : Type 0} (p : E → Bool) (xs : List E) (n : ℕ) (e : E) → slice_get xs n ≡ Some e → p e ≡ true
    → ((i : ℕ) (x : E) → i < n → slice_get xs i ≡ Some x → p x ≡ false) → find p xs ≡ Some e
find-at p [] n e at is before = absurd (none-some e at)
find-at {E} p (x ∷ xs) zero e at is before =
    ap (λ (y : E). cond (p y) (Some y) (find p xs)) (same_Some x e at) ∙ ap (λ b. cond b (Some e) (find p xs)) is
find-at p (x ∷ xs) (suc n) e at is before =
    ap (λ b. cond b (Some x) (find p xs)) (before zero x (omega arith) refl)
    ∙ find-at p xs n e at is (λ i y below there. before (suc i) y (omega arith) there)

pub find-none : {E : Type 0} (p : E → Bool) (xs : List E) → ((i : ℕ) (x : E) → slice_get xs i ≡ Some x → p x ≡ false)
    → find p xs ≡ None
find-none p [] fails = refl
find-none p (x ∷ xs) fails =
    ap (λ b. cond b (Some x) (find p xs)) (fails zero x refl)
    ∙ find-none p xs (λ i y there. fails (suc i) y there)

-- a search for a number succeeds exactly where the list has it
pub place_found : (found : Bool) (xs : List ℕ) (x : ℕ)
    → (IsTrue found → Contains xs x) × (Contains xs x → IsTrue found) → found ≡ list_any (λ y. y == x) xs
place_found found xs x is = same_test found (list_any (λ y. y == x) xs) is (
  (λ any.
      let one = any_passes (λ y. y == x) xs any in
      subst (Contains xs) ((Decides-eqb one.one x).0 one.passes) one.member),
  (λ one. any_from (λ y. y == x) xs x one ((Decides-eqb x x).1 refl)),
)

-- the first entry that passes is found among the indices of the entries with a name, where all that pass have the name
module _ {E : Type 0} (p : E → Bool) (entries : List E) where
  abbrev test_at : ℕ → Bool
  test_at n = option_map_or p (slice_get entries n) false

  numbered : (numbers : List ℕ) (low : ℕ) → IsStrictlySortedBy nat_cmp numbers
      → ((i : ℕ) (x : E) → i < low → slice_get entries i ≡ Some x → p x ≡ false)
      → ((i : ℕ) (x : E) → low ≤ i → slice_get entries i ≡ Some x → p x ≡ true → Contains numbers i)
      → option_and_then (slice_get entries) (find test_at numbers) ≡ find p entries
  unfolding IsStrictlySortedBy
  numbered [] low up fails whole = sym (find-none p entries (λ i x at. elim (cases_Bool (p x)) as (λ _. p x ≡ false) [
    | inr fails_so ↦ fails_so
    | inl holds ↦ elim (cases_lt i low) as (λ _. p x ≡ false) [
      | inl below ↦ fails i x below at
      | inr from ↦ absurd (no_member i (whole i x from at holds))
    ]
  ]))
  numbered (n ∷ ns) low up fails whole = elim (cases_Bool (test_at n))
      as (λ _. option_and_then (slice_get entries) (find test_at (n ∷ ns)) ≡ find p entries) [
        | inl holds ↦
            let e = some_from_passes p (slice_get entries n) holds in
            ap (λ b. option_and_then (slice_get entries) (cond b (Some n) (find test_at ns))) holds
            ∙ (e.1 ∙ sym (find-at p entries n e.0 e.1 e.2 (λ i x below at. elim (cases_Bool (p x))
            as (λ _. p x ≡ false) [
              | inr fails_so ↦ fails_so
              | inl passes ↦ elim (cases_lt i low) as (λ _. p x ≡ false) [
                | inl before ↦ fails i x before at
                | inr from ↦ Contains-by_cases n ns i (whole i x from at passes)
                    (λ same. absurd (omega arith))
                    (λ later. absurd (omega (
                      arith,
                      less_from_nat_cmp n i
                          (at_member (λ m. nat_cmp n m ≡ Less) ns i up.0 later),
                    )))
              ]
            ])))
        | inr fails_so ↦
            ap (λ b. option_and_then (slice_get entries) (cond b (Some n) (find test_at ns))) fails_so
            ∙ numbered ns (n + 1) up.1 (λ i x below at. elim (cases_Bool (p x)) as (λ _. p x ≡ false) [
              | inr fails_here ↦ fails_here
              | inl passes ↦ elim (cases_lt i low) as (λ _. p x ≡ false) [
                | inl before ↦ fails i x before at
                | inr from ↦ Contains-by_cases n ns i (whole i x from at passes)
                    (λ same. sym (ap (λ (o : Option E). option_map_or p o false) (ap (slice_get entries) same
                    ∙ at)) ∙ fails_so)
                    (λ later. absurd (omega (
                      arith,
                      less_from_nat_cmp n i
                          (at_member (λ m. nat_cmp n m ≡ Less) ns i up.0 later),
                    )))
              ]
            ])
            (λ i x over at passes. elim (cases_lt i low) as (λ _. Contains ns i) [
              | inl before ↦ absurd (cc (sym passes ∙ fails i x before at))
              | inr from ↦ Contains-by_cases n ns i (whole i x from at passes)
                  (λ same. absurd (omega arith)) (λ later. later)
            ])
      ]

  -- the first entry that passes, searched among the indices of the entries with a name that all passing entries have
  pub first-numbered : (name : E → List ℕ) (asked : List ℕ) (numbers : List ℕ) → IsStrictlyIncreasing numbers
      → ((i : ℕ) → Contains numbers i ↔ (slice_get (map name entries) i ≡ Some asked))
      → ((x : E) → p x ≡ true → name x ≡ asked)
      → option_and_then (slice_get entries) (find test_at numbers) ≡ find p entries
  first-numbered name asked numbers up exact named =
      numbered numbers 0 (sorted_from_strictly_increasing numbers up) (λ i x below at. absurd (omega arith))
      (λ i x from at passes. (exact i).1
      (map_at name entries i x at ∙ ap (λ (text : List ℕ). Some text) (named x passes)))
