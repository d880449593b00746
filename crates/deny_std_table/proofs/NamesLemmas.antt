-- The search for a name among ascending names.
use Rattle.std.proofs.Common.{◌≡◌, ℕ, zero, suc, ◌+◌, ◌-◌, ◌<◌, ◌≤◌, List, refl, sym, ap, ◌∙◌, arith, subst, inl, inr}
use Rattle.std.proofs.Math.Nat.{eq-or-lt_of_le}
use Rattle.std.proofs.Common.{Bool, true, false, nat_lt}
use Rattle.std.proofs.lemmas.Bool.{ltb-true, ltb-false}
use Rattle.std.proofs.lemmas.Cmp.{tied_itself}
use Rattle.std.proofs.lemmas.Map.Text.{is_eq-slice_cmp}
use Rattle.std.proofs.lemmas.Slice.Eq.{bytes_eq-Decides}
use Rattle.std.specs.Cmp.Lexicographic.{slice_cmp, nat_list_cmp_total}
use Rattle.std.specs.Ordering.{nat_cmp, ordering_reverse, is_eq}
use Rattle.std.specs.declared.cmp.Ordering.TheVariants.{Less, Equal, Greater}
use Rattle.deny_std_table.specs.private.Names.{name_at, HasNames}

-- a later name is above an earlier one
rising_by : (names : ℕ → List ℕ) (count : ℕ)
    → ((i : ℕ) → i + 1 < count → slice_cmp nat_cmp (names i) (names (i + 1)) ≡ Less)
    → (i more : ℕ) → i + 1 + more < count → slice_cmp nat_cmp (names i) (names (i + 1 + more)) ≡ Less
rising_by names count rising i zero below =
    let here : i + 1 ≡ i + 1 + zero = omega arith in
    subst (λ n. slice_cmp nat_cmp (names i) (names n) ≡ Less) here (rising i (omega arith))
rising_by names count rising i (suc more) below =
    let before = rising_by names count rising i more (omega arith) in
    let last = rising (i + 1 + more) (omega arith) in
    let here : i + 1 + more + 1 ≡ i + 1 + suc more = omega arith in
    subst (λ n. slice_cmp nat_cmp (names i) (names n) ≡ Less) here
    (nat_list_cmp_total.trans (names i) (names (i + 1 + more)) (names (i + 1 + more + 1)) before last)

pub rising_all : (names : ℕ → List ℕ) (count : ℕ)
    → ((i : ℕ) → i + 1 < count → slice_cmp nat_cmp (names i) (names (i + 1)) ≡ Less)
    → (i j : ℕ) → i < j → j < count → slice_cmp nat_cmp (names i) (names j) ≡ Less
rising_all names count rising i j before below =
    let there : i + 1 + (j - (i + 1)) ≡ j = omega arith in
    subst (λ n. slice_cmp nat_cmp (names i) (names n) ≡ Less) there
    (rising_by names count rising i (j - (i + 1)) (omega arith))

turned : (a b : List ℕ) → slice_cmp nat_cmp a b ≡ Less → slice_cmp nat_cmp b a ≡ Greater
turned a b is = nat_list_cmp_total.antisymm b a ∙ ap ordering_reverse is

turned_back : (a b : List ℕ) → slice_cmp nat_cmp a b ≡ Greater → slice_cmp nat_cmp b a ≡ Less
turned_back a b is = nat_list_cmp_total.antisymm b a ∙ ap ordering_reverse is

-- where a name is below the one that is searched, all names before it are
pub below_found : (width : ℕ) (bytes : List ℕ) (count middle : ℕ) (name : List ℕ) → HasNames width bytes count
    → middle < count
    → slice_cmp nat_cmp (name_at width bytes middle) name ≡ Less → (k : ℕ) → k < middle + 1
    → slice_cmp nat_cmp (name_at width bytes k) name ≡ Less
below_found width bytes count middle name has inside is k below =
    let at_most : k ≤ middle = omega arith in
    elim (eq-or-lt_of_le at_most) [
      | inl same ↦ subst (λ n. slice_cmp nat_cmp (name_at width bytes n) name ≡ Less) (sym same) is
      | inr less ↦ nat_list_cmp_total.trans (name_at width bytes k) (name_at width bytes middle) name
          (rising_all (λ n. name_at width bytes n) count has.rising k middle less inside) is
    ]

-- where a name is above the one that is searched, all names after it are
pub above_found : (width : ℕ) (bytes : List ℕ) (count middle : ℕ) (name : List ℕ) → HasNames width bytes count
    → slice_cmp nat_cmp (name_at width bytes middle) name ≡ Greater → (k : ℕ) → middle ≤ k → k < count
    → slice_cmp nat_cmp (name_at width bytes k) name ≡ Greater
above_found width bytes count middle name has is k from inside =
    elim (eq-or-lt_of_le from) [
      | inl same ↦ subst (λ n. slice_cmp nat_cmp (name_at width bytes n) name ≡ Greater) same is
      | inr more ↦ turned name (name_at width bytes k)
          (nat_list_cmp_total.trans name (name_at width bytes middle) (name_at width bytes k)
          (turned_back (name_at width bytes middle) name is)
          (rising_all (λ n. name_at width bytes n) count has.rising middle k more inside))
    ]

-- names that tie are equal
pub found : (a b : List ℕ) → slice_cmp nat_cmp a b ≡ Equal → a ≡ b
found a b is = (bytes_eq-Decides a b).0 (sym (is_eq-slice_cmp a b) ∙ ap is_eq is)

-- where each name is below or above the one that is searched, none is equal to it
pub not_found : (width : ℕ) (bytes : List ℕ) (count low high : ℕ) (name : List ℕ) → high ≤ low
    → ((k : ℕ) → k < low → slice_cmp nat_cmp (name_at width bytes k) name ≡ Less)
    → ((k : ℕ) → high ≤ k → k < count → slice_cmp nat_cmp (name_at width bytes k) name ≡ Greater)
    → (i : ℕ) → i < count → name_at width bytes i ≡ name → ⊥
not_found width bytes count low high name crossed below above i inside same = by_side (nat_lt i low) refl
  where
    ties : slice_cmp nat_cmp (name_at width bytes i) name ≡ Equal
    ties = ap (λ n. slice_cmp nat_cmp n name) same ∙ tied_itself nat_list_cmp_total name

    by_side : (test : Bool) → nat_lt i low ≡ test → ⊥
    by_side true is = let less : slice_cmp nat_cmp (name_at width bytes i) name ≡ Less = below i (ltb-true i low is) in
        let tie = ties in cc
    by_side false is =
        let from : low ≤ i = ltb-false i low is in
        let more : slice_cmp nat_cmp (name_at width bytes i) name ≡ Greater = above i (omega arith) inside in
        let tie = ties in cc
