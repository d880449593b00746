-- Sorting and dropping repeats gives the ascending list of a fact, there is only one such list, and mapping keeps an
-- order.
use Rattle.std.proofs.Common.{Bool, List, Some, [], arith, inl, inr, length, map, refl, subst, suc, sym, true, zero, ℕ}
use Rattle.std.proofs.Common.{◌<◌, ◌∙◌, ◌∷◌, ◌≡◌, ◌≤◌}
use Rattle.std.specs.Cmp.{Equal-is, IsEquivalence, IsTotalOrder}
use Rattle.std.specs.FinMap.{IsAntisymmetric}
use Rattle.std.specs.List.{AllByRecursion, dedup, remove}
use Rattle.std.specs.List.Sorted.{IsPermutation, IsSorted, IsStrictlySortedBy}
use Rattle.std.specs.Ordering.{eq_by_cmp, ordering_reverse}
use Rattle.std.specs.Prelude.{Contains, slice_get}
use Rattle.std.specs.declared.cmp.Ordering.{Ordering}
use Rattle.std.specs.declared.cmp.Ordering.TheVariants.{Equal, Greater, Less}
use Rattle.std.proofs.lemmas.List.Edits.{length-remove}
use Rattle.std.proofs.lemmas.List.Kept.{Contains-dedup, Contains-from_dedup, IsStrictlySortedBy-dedup}
use Rattle.std.proofs.lemmas.List.Sorted.{Contains-permutation, IsPermutation-remove, IsPermutation-sym}
use Rattle.std.proofs.lemmas.Option.{none-some}
use Rattle.deny_base_lists.proofs.Members.{Contains-cases, Contains-first, Contains-rest, from_there, no_member, one_there}
use Rattle.deny_base_lists.proofs.Members.{there, at_member}
use Rattle.deny_base_lists.specs.Ascending.{Lists}

-- sorting a list and dropping repeats lists its members
pub lists_from_sort : {T : Type 0} {cmp : T → T → Ordering} {eq : T → T → Bool}
    → IsTotalOrder cmp → IsAntisymmetric cmp → IsEquivalence eq → ((x y : T) → eq x y ≡ eq_by_cmp cmp x y)
    → (old sorted : List T) → IsPermutation old sorted → IsSorted cmp sorted
    → Lists cmp (Contains old) (dedup eq sorted)
lists_from_sort {T} {cmp} {eq} total exact same ties old sorted moved ascends =
    let equal : (x y : T) → eq x y ≡ true → x ≡ y = λ x y e. exact x y ((Equal-is (cmp x y)).0 (sym (ties x y) ∙ e)) in
    record {
      ascending = IsStrictlySortedBy-dedup total ties sorted ascends;
      whole = λ x is. Contains-dedup same equal sorted x (Contains-permutation old sorted x moved is);
      sound = λ x is. Contains-permutation sorted old x (IsPermutation-sym old sorted moved)
          (Contains-from_dedup eq sorted x is);
    }

not_below_itself : (r : Ordering) → r ≡ ordering_reverse r → r ≡ Less → ⊥
not_below_itself Less e l = cc
not_below_itself Equal e l = cc
not_below_itself Greater e l = cc

module _ {T : Type 0} {cmp : T → T → Ordering} (total : IsTotalOrder cmp) where
  irreflexive : (x : T) → cmp x x ≡ Less → ⊥
  irreflexive x below = not_below_itself (cmp x x) (total.antisymm x x) below

  both_below : (r s : Ordering) → r ≡ ordering_reverse s → r ≡ Less → s ≡ Less → ⊥
  both_below Less Less e l m = cc
  both_below Less Equal e l m = cc
  both_below Less Greater e l m = cc
  both_below Equal s e l m = cc
  both_below Greater s e l m = cc

  same_head : (x : T) (xs : List T) (y : T) (ys : List T)
      → AllByRecursion (λ z. cmp x z ≡ Less) xs → AllByRecursion (λ z. cmp y z ≡ Less) ys
      → Contains (y ∷ ys) x → Contains (x ∷ xs) y → x ≡ y
  same_head x xs y ys above_x above_y there here = elim (Contains-cases y ys x there) [
    | inl first ↦ sym first
    | inr later ↦ elim (Contains-cases x xs y here) [
      | inl first ↦ first
      | inr after ↦ absurd (both_below (cmp x y) (cmp y x) (total.antisymm x y)
          (at_member (λ z. cmp x z ≡ Less) xs y above_x after) (at_member (λ z. cmp y z ≡ Less) ys x above_y later))
    ]
  ]

  rest_of : (x : T) (xs : List T) (y : T) (ys : List T) → x ≡ y → AllByRecursion (λ z. cmp x z ≡ Less) xs
      → ((z : T) → Contains (x ∷ xs) z → Contains (y ∷ ys) z) → (z : T) → Contains xs z → Contains ys z
  rest_of x xs y ys head above there z is = elim (Contains-cases y ys z (there z (Contains-rest x xs z is))) [
    | inl first ↦ absurd (irreflexive x
        (subst (λ w. cmp x w ≡ Less) (sym (head ∙ first)) (at_member (λ w. cmp x w ≡ Less) xs z above is)))
    | inr later ↦ later
  ]

  -- two ascending lists with the same elements are the same list
  pub one_ascending : (xs ys : List T) → IsStrictlySortedBy cmp xs → IsStrictlySortedBy cmp ys
      → ((z : T) → Contains xs z → Contains ys z) → ((z : T) → Contains ys z → Contains xs z) → xs ≡ ys
  unfolding IsStrictlySortedBy
  one_ascending [] [] up vp there here = refl
  one_ascending [] (y ∷ ys) up vp there here = absurd (no_member y (here y (Contains-first y ys)))
  one_ascending (x ∷ xs) [] up vp there here = absurd (no_member x (there x (Contains-first x xs)))
  one_ascending (x ∷ xs) (y ∷ ys) up vp there here =
      let head : x ≡ y = same_head x xs y ys up.0 vp.0 (there x (Contains-first x xs)) (here y (Contains-first y ys)) in
      let tail : xs ≡ ys = one_ascending xs ys up.1 vp.1 (rest_of x xs y ys head up.0 there)
      (rest_of y ys x xs (sym head) vp.0 here) in
      cc

  -- there is at most one ascending list of what a fact is true of
  pub one_list : {P : T → Type 0} (xs ys : List T) → Lists cmp P xs → Lists cmp P ys → xs ≡ ys
  one_list xs ys these those = one_ascending xs ys these.ascending those.ascending
      (λ z is. those.whole z (these.sound z is)) (λ z is. these.whole z (those.sound z is))

module _ {T : Type 0} {cmp : T → T → Ordering} (total : IsTotalOrder cmp) where
  -- an element above x stays in a list when x is removed
  stays : (x : T) (xs ys : List T) → AllByRecursion (λ z. cmp x z ≡ Less) xs
      → ((z : T) → Contains (x ∷ xs) z → Contains ys z)
      → (at : Contains ys x) → (z : T) → Contains xs z → Contains (remove ys at.0) z
  stays x xs ys above there at z is =
      let moved = IsPermutation-remove ys at.0 x at.1 (sym at.2) in
      elim (Contains-cases x (remove ys at.0) z
      (Contains-permutation ys (x ∷ remove ys at.0) z moved (there z (Contains-rest x xs z is)))) [
        | inl same ↦ absurd (not_below_itself (cmp x x) (total.antisymm x x)
            (subst (λ w. cmp x w ≡ Less) (sym same) (at_member (λ w. cmp x w ≡ Less) xs z above is)))
        | inr later ↦ later
      ]

  pub length-ascending : (xs ys : List T) → IsStrictlySortedBy cmp xs → ((z : T) → Contains xs z → Contains ys z)
      → length xs ≤ length ys
  unfolding IsStrictlySortedBy
  length-ascending [] ys up there = omega arith
  length-ascending (x ∷ xs) ys up there =
      let at = there x (Contains-first x xs) in
      let shorter = length-ascending xs (remove ys at.0) up.1 (stays x xs ys up.0 there at) in
      let removed = length-remove ys at.0 at.1 in
      omega arith

-- lists that ascend
each_at : {A : Type 0} (P : A → Type 0) (xs : List A) (k : ℕ) (x : A) → AllByRecursion P xs
    → slice_get xs k ≡ Some x → P x
each_at P [] k x all is = absurd (none-some _ is)
each_at P (a ∷ xs) zero x all is = subst P (one_there (a ∷ xs) 0 a x refl is) all.0
each_at P (a ∷ xs) (suc k) x all is = each_at P xs k x all.1 is

pub ascends_at : {A : Type 0} (cmp : A → A → Ordering) (xs : List A) (i j : ℕ) (x y : A) → IsStrictlySortedBy cmp xs
    → i < j → slice_get xs i ≡ Some x → slice_get xs j ≡ Some y → cmp x y ≡ Less
unfolding IsStrictlySortedBy
ascends_at cmp [] i j x y up below at at' = absurd (none-some _ at)
ascends_at cmp (a ∷ xs) zero zero x y up below at at' = absurd (omega (arith, below))
ascends_at {A} cmp (a ∷ xs) zero (suc j) x y up below at at' = subst (λ (z : A). cmp z y ≡ Less)
    (one_there (a ∷ xs) 0 a x refl at) (each_at (λ z. cmp a z ≡ Less) xs j y up.0 at')
ascends_at cmp (a ∷ xs) (suc i) zero x y up below at at' = absurd (omega (arith, below))
ascends_at cmp (a ∷ xs) (suc i) (suc j) x y up below at at' = ascends_at cmp xs i j x y up.1 (omega (arith, below)) at
    at'

-- mapping keeps an order that it mirrors
pub ascends_map : {A B : Type 0} (cmp : A → A → Ordering) (cmp' : B → B → Ordering) (f : A → B) (P : A → Type 0)
    (xs : List A)
    → ((x y : A) → P x → P y → cmp x y ≡ Less → cmp' (f x) (f y) ≡ Less) → ((x : A) → Contains xs x → P x)
    → IsStrictlySortedBy cmp xs → IsStrictlySortedBy cmp' (map f xs)
unfolding IsStrictlySortedBy
ascends_map cmp cmp' f P [] mirrors holds up = tt
ascends_map {A} {B} cmp cmp' f P (a ∷ xs) mirrors holds up = (
  below_all xs (λ x is. holds x (from_there (a ∷ xs) (suc (there xs x is).0) x (there xs x is).1)) up.0,
  ascends_map cmp cmp' f P xs mirrors
      (λ x is. holds x (from_there (a ∷ xs) (suc (there xs x is).0) x (there xs x is).1)) up.1,
)
  where
    below_all : (ys : List A) → ((y : A) → Contains ys y → P y) → AllByRecursion (λ y. cmp a y ≡ Less) ys
        → AllByRecursion (λ z. cmp' (f a) z ≡ Less) (map f ys)
    below_all [] h all = tt
    below_all (y ∷ ys) h all = (
      mirrors a y (holds a (from_there (a ∷ xs) 0 a refl)) (h y (from_there (y ∷ ys) 0 y refl)) all.0,
      below_all ys (λ z is. h z (from_there (y ∷ ys) (suc (there ys z is).0) z (there ys z is).1)) all.1,
    )
