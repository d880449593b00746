-- The result of a binary search in an ascending list.
use Rattle.std.proofs.Common.{◌≡◌, ◌<◌, ◌≤◌, ◌+◌, ℕ, inl, inr, List, true, false, Result, Ok, Err, length, refl, sym}
use Rattle.std.proofs.Common.{ap, ◌∙◌, arith, IsTrue}
use Rattle.std.specs.Prelude.{Contains, is_ok, slice_index_or}
use Rattle.std.specs.Cmp.{IsTotalOrder}
use Rattle.std.specs.FinMap.{IsAntisymmetric}
use Rattle.std.specs.List.Sorted.{IsBinarySearchResult, IsSearchInRange, IsSortedBy, IsStrictlySortedBy}
use Rattle.std.specs.Ordering.{is_lt, ordering_reverse}
use Rattle.std.specs.declared.cmp.Ordering.{Ordering}
use Rattle.std.specs.declared.cmp.Ordering.TheVariants.{Less, Greater}
use Rattle.std.proofs.lemmas.Bool.{cases_lt}
use Rattle.std.proofs.lemmas.List.Sorted.{searchable_from_sorted}
use Rattle.std.proofs.lemmas.Option.{slice_get-get_or}
use Rattle.deny_base_lists.proofs.Orders.{not_above, not_below_itself}
use Rattle.deny_base_lists.proofs.Sorted.{ascends_at}

-- nothing is above itself
pub not_above_itself : {A : Type 0} (cmp : A → A → Ordering) → IsTotalOrder cmp → (x y : A) → x ≡ y → cmp x y ≡ Greater
    → ⊥
not_above_itself cmp total x y same above =
    not_below_itself cmp total y x (sym same) (total.antisymm y x ∙ ap ordering_reverse above)

module _ {A : Type 0} (cmp : A → A → Ordering) (total : IsTotalOrder cmp) where
  -- an ascending list can be searched
  pub sorted_from_strict : (xs : List A) → IsStrictlySortedBy cmp xs → IsSortedBy (λ x y. is_lt (cmp x y)) xs
  sorted_from_strict xs up k d low inside =
      not_above cmp total (slice_index_or xs k d) (slice_index_or xs (k + 1) d)
      (ascends_at cmp xs k (k + 1) _ _ up (omega arith) (slice_get-get_or xs k d (omega (arith, inside)))
      (slice_get-get_or xs (k + 1) d inside))

  pub search_finds : IsAntisymmetric cmp → (xs : List A) (x : A) (r : Result ℕ ℕ) → IsStrictlySortedBy cmp xs
      → IsSearchInRange r (length xs) → IsBinarySearchResult (λ y. cmp y x) xs r
      → (IsTrue (is_ok r) → Contains xs x) × (Contains xs x → IsTrue (is_ok r))
  search_finds exact xs x (Ok i) up inside holds =
      ((λ _. (i, inside, exact (slice_index_or xs i x) x (holds x))), (λ _. refl))
  search_finds exact xs x (Err i) up inside point = (
    (λ is. absurd (false-true is)),
    (λ holds. absurd (not_there holds
        (point (searchable_from_sorted total (λ (y : A). y) xs x (sorted_from_strict xs up))))),
  )
    where
      false-true : false ≡ true → ⊥
      false-true e = absurd (cc)

      not_there : (holds : Contains xs x)
          → ((k : ℕ) (d : A) → 0 ≤ k → k < i → cmp (slice_index_or xs k d) x ≡ Less)
          × ((k : ℕ) (d : A) → i ≤ k → k < length xs → cmp (slice_index_or xs k d) x ≡ Greater) → ⊥
      not_there holds point_is = elim (cases_lt holds.0 i) as (λ _. ⊥) [
        | inl before ↦ not_below_itself cmp total (slice_index_or xs holds.0 x) x holds.2
            (point_is.0 holds.0 x (omega arith) before)
        | inr after ↦ not_above_itself cmp total (slice_index_or xs holds.0 x) x holds.2
            (point_is.1 holds.0 x after holds.1)
      ]
