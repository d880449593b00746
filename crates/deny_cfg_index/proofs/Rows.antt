-- Worked examples: of the names `a`, `b` and `a` again, `a` has the numbers 0 and 2, and `c` has none.
use Rattle.std.proofs.Common.{◌≡◌, ℕ, zero, suc, ◌+◌, ◌<◌, ◌≤◌, List, [], ◌∷◌, refl, ap, subst, arith}
use Rattle.std.specs.Prelude.{Contains, Some, slice_index}
use Rattle.deny_base_lists.proofs.Members.{Contains-by_cases, from_there, contains_none}
use Rattle.deny_base_lists.proofs.Options.{some_inj, none_is_no_some}
use Rattle.deny_cfg_index.specs.Hash.{hash_of}
use Rattle.deny_cfg_index.specs.Names.{HasNumber, AreNumbers, KeepsBound}
use Rattle.deny_cfg_index.proofs.Lists.{ascending_none}

abbrev names : List (List ℕ)
names = (97 ∷ []) ∷ (98 ∷ []) ∷ (97 ∷ []) ∷ []

letter : {a b : ℕ} → Some (a ∷ []) ≡ Some (b ∷ []) → a ≡ b
letter e = ap (λ l. slice_index l 0) (some_inj e)

of_a : AreNumbers names (97 ∷ []) (0 ∷ 2 ∷ [])
of_a = record { ascending = up; exact = λ i. (to i, from i) } where
  up : (k : ℕ) → k + 1 < 2 → slice_index (0 ∷ 2 ∷ []) k < slice_index (0 ∷ 2 ∷ []) (k + 1)
  up zero p = omega arith
  up (suc k) p = absurd (omega (arith, p))

  to : (i : ℕ) → Contains (0 ∷ 2 ∷ []) i → HasNumber names (97 ∷ []) i
  to i c = Contains-by_cases 0 (2 ∷ []) i c (λ e. subst (HasNumber names (97 ∷ [])) e refl)
      (λ d. Contains-by_cases 2 [] i d (λ e. subst (HasNumber names (97 ∷ [])) e refl) contains_none)

  from : (i : ℕ) → HasNumber names (97 ∷ []) i → Contains (0 ∷ 2 ∷ []) i
  from zero h = from_there (0 ∷ 2 ∷ []) 0 0 refl
  from (suc zero) h = absurd (omega (arith, letter h))
  from (suc (suc zero)) h = from_there (0 ∷ 2 ∷ []) 1 2 refl
  from (suc (suc (suc i))) h = none_is_no_some h

of_c : AreNumbers names (99 ∷ []) []
of_c = record { ascending = ascending_none; exact = λ i. (contains_none, from i) } where
  from : (i : ℕ) → HasNumber names (99 ∷ []) i → Contains [] i
  from zero h = absurd (omega (arith, letter h))
  from (suc zero) h = absurd (omega (arith, letter h))
  from (suc (suc zero)) h = absurd (omega (arith, letter h))
  from (suc (suc (suc i))) h = none_is_no_some h

-- the hash of `ab` is 97 * 31 + 98
hash_of_ab : hash_of (97 ∷ 98 ∷ []) ≡ 3105
hash_of_ab = refl

abbrev listed : List (List ℕ)
listed = (97 ∷ []) ∷ (98 ∷ []) ∷ []

-- two different names are fewer than 2^2: finding `a` takes at most 2 comparisons, and gives 2 numbers
steps_of_a : (old new : ℕ) → KeepsBound names (97 ∷ []) old new → new ≤ old + 4
steps_of_a old new bound =
    omega (arith, bound listed (0 ∷ 2 ∷ []) 2 has (λ i h. (of_a.exact i).1 h) (omega arith)) where
      has : (name : List ℕ) → Contains names name → Contains listed name
      has name c = Contains-by_cases (97 ∷ []) ((98 ∷ []) ∷ (97 ∷ []) ∷ []) name c (λ e. first name e)
          (λ d. Contains-by_cases (98 ∷ []) ((97 ∷ []) ∷ []) name d (λ e. second name e)
          (λ f. Contains-by_cases (97 ∷ []) [] name f (λ e. first name e) contains_none)) where
            first : (name : List ℕ) → 97 ∷ [] ≡ name → Contains listed name
            first name e = subst (Contains listed) e (from_there listed 0 (97 ∷ []) refl)

            second : (name : List ℕ) → 98 ∷ [] ≡ name → Contains listed name
            second name e = subst (Contains listed) e (from_there listed 1 (98 ∷ []) refl)
