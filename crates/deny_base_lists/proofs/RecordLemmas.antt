-- Records put in order by their keys, one for each key: the first that has it.
use Rattle.std.proofs.Common.{◌≡◌, ◌&&◌, inl, inr, List, [], ◌∷◌, Bool, true, false, not, cond, Option, None, Some, map}
use Rattle.std.proofs.Common.{refl, sym, ap, ◌∙◌, subst}
use Rattle.std.specs.Prelude.{Contains, filter, find}
use Rattle.std.specs.Cmp.{IsTotalOrder, IsEquivalence, Equal-is, eq_by_cmp_equiv}
use Rattle.std.specs.FinMap.{IsAntisymmetric}
use Rattle.std.specs.List.{AllByRecursion, dedup, dedup_from}
use Rattle.std.specs.List.Sorted.{IsStrictlySortedBy, IsSortedByKey, IsPermutation, IsStableByKey, ties}
use Rattle.std.specs.Ordering.{eq_by_cmp, is_eq, is_lt, on, ordering_reverse}
use Rattle.std.specs.declared.cmp.Ordering.{Ordering}
use Rattle.std.specs.declared.cmp.Ordering.TheVariants.{Less, Equal, Greater}
use Rattle.std.proofs.lemmas.Cmp.{on_total}
use Rattle.std.proofs.lemmas.List.Elements.{All-contains_itself, All-weaker, filter_agree}
use Rattle.std.proofs.lemmas.List.Kept.{Any-dedup, Contains-from_dedup, IsStrictlySortedBy-dedup}
use Rattle.std.proofs.lemmas.List.Sorted.{Contains-permutation, IsPermutation-sym}
use Rattle.deny_base_lists.specs.Ascending.{AreFirst, Lists}
use Rattle.deny_base_lists.proofs.Members.{Contains-cases, at_member, contains_map}
use Rattle.deny_base_lists.proofs.Members.{from_contains_map, no_member}

-- ---- the first element that passes a test

first : {T : Type 0} → List T → Option T
first [] = None
first (x ∷ xs) = Some x

find_is_first : {T : Type 0} (p : T → Bool) (xs : List T) → find p xs ≡ first (filter p xs)
unfolding first
find_is_first p [] = refl
find_is_first p (x ∷ xs) = elim (p x)
    as (λ b. cond b (Some x) (find p xs) ≡ first (cond b (x ∷ filter p xs) (filter p xs))) [
      | true ↦ refl
      | false ↦ find_is_first p xs
    ]

find_agree : {T : Type 0} (p q : T → Bool) → ((x : T) → p x ≡ q x) → (xs ys : List T) → filter q xs ≡ filter q ys
    → find p xs ≡ find p ys
find_agree p q same xs ys kept =
    let at_xs = find_is_first p xs ∙ ap first (filter_agree p q same xs ∙ kept) in
    at_xs ∙ sym (find_is_first p ys ∙ ap first (filter_agree p q same ys))

-- ---- dropping an element that equals the one before it

module _ {T : Type 0} (E : T → T → Bool) (p : T → Bool) (respects : (x y : T) → E x y ≡ true → p x ≡ p y) where
  find-dedup_from : (k : T) (xs : List T) → find p (dedup_from E k xs) ≡ find p (k ∷ xs)
  find-dedup_from k [] = refl
  find-dedup_from k (x ∷ xs) = elim (E x k) as (λ b. E x k ≡ b
      → find p (cond b (dedup_from E k xs) (k ∷ dedup_from E x xs)) ≡ find p (k ∷ x ∷ xs)) [
        | true ↦ λ is. find-dedup_from k xs ∙ skip (p k) (p x) (respects x k is)
        | false ↦ λ _. ap (cond (p k) (Some k)) (find-dedup_from x xs)
      ] refl
    where
      skip : (a b : Bool) → b ≡ a → cond a (Some k) (find p xs) ≡ cond a (Some k) (cond b (Some x) (find p xs))
      skip true b is = refl
      skip false true is = cc
      skip false false is = refl

  find-dedup : (xs : List T) → find p (dedup E xs) ≡ find p xs
  find-dedup [] = refl
  find-dedup (x ∷ xs) = find-dedup_from x xs

all_map : {T K : Type 0} (f : T → K) (P : K → Type 0) (xs : List T) → AllByRecursion (λ x. P (f x)) xs
    → AllByRecursion P (map f xs)
all_map f P [] all = all
all_map f P (x ∷ xs) all = (all.0, all_map f P xs all.1)

-- ---- by a key

module _ {T K : Type 0} {cmp : K → K → Ordering} (total : IsTotalOrder cmp) (exact : IsAntisymmetric cmp)
    (key : T → K) where
  abbrev same_key : T → T → Bool
  same_key x y = eq_by_cmp cmp (key x) (key y)

  strictly_by_key : (xs : List T) → IsStrictlySortedBy (on key cmp) xs → IsStrictlySortedBy cmp (map key xs)
  unfolding IsStrictlySortedBy
  strictly_by_key [] up = up
  strictly_by_key (x ∷ xs) up = (all_map key (λ k. cmp (key x) k ≡ Less) xs up.0, strictly_by_key xs up.1)

  one_key : (x y : T) → same_key x y ≡ true → key x ≡ key y
  one_key x y is = exact (key x) (key y) ((Equal-is (cmp (key x) (key y))).0 is)

  same : IsEquivalence same_key
  same = eq_by_cmp_equiv (on_total key total)

  -- sorting by the key and dropping repeats lists the keys
  pub keys_from_sort : (old sorted : List T) → IsPermutation old sorted → IsSortedByKey key cmp sorted
      → Lists cmp (Contains (map key old)) (map key (dedup same_key sorted))
  keys_from_sort old sorted moved ascends = record {
    ascending = strictly_by_key (dedup same_key sorted)
        (IsStrictlySortedBy-dedup (on_total key total) (λ x y. refl) sorted ascends);
    whole = λ k is.
        let x = from_contains_map key old k is in
        let y = Any-dedup same sorted x.0 (Contains-permutation old sorted x.0 moved x.1) in
        let holds : Contains (dedup same_key sorted) y.1 = (y.0, y.2, y.3) in
        subst (Contains (map key (dedup same_key sorted))) (sym (one_key x.0 y.1 y.4) ∙ x.2)
        (contains_map key (dedup same_key sorted) y.1 holds);
    sound = λ k is.
        let x = from_contains_map key (dedup same_key sorted) k is in
        let stood = Contains-permutation sorted old x.0 (IsPermutation-sym old sorted moved)
        (Contains-from_dedup same_key sorted x.0 x.1) in
        subst (Contains (map key old)) x.2 (contains_map key old x.0 stood);
  }

  -- in a list whose keys ascend strictly, a record is the first of its key
  find_itself : (xs : List T) (x : T) → IsStrictlySortedBy (on key cmp) xs → Contains xs x
      → find (same_key x) xs ≡ Some x
  unfolding IsStrictlySortedBy
  find_itself [] x up is = absurd (no_member x is)
  find_itself (y ∷ ys) x up is = elim (Contains-cases y ys x is) as (λ _. find (same_key x) (y ∷ ys) ≡ Some x) [
    | inl here ↦ subst (λ z. find (same_key z) (y ∷ ys) ≡ Some z) here
        (ap (λ b. cond b (Some y) (find (same_key y) ys)) (same.refl y))
    | inr later ↦
        let below : on key cmp y x ≡ Less = at_member (λ z. on key cmp y z ≡ Less) ys x up.0 later in
        let apart : same_key x y ≡ false = same.symm x y ∙ ap is_eq below in
        ap (λ b. cond b (Some y) (find (same_key x) ys)) apart ∙ find_itself ys x up.1 later
  ]

  -- a record that ties with another has its key
  ties_are_same : (x y : T) → same_key x y ≡ ties (λ a b. is_lt (cmp (key a) (key b))) x y
  ties_are_same x y = tied (cmp (key x) (key y)) (cmp (key y) (key x)) (total.antisymm (key x) (key y))
    where
      tied : (r s : Ordering) → r ≡ ordering_reverse s → is_eq r ≡ not (is_lt r) && not (is_lt s)
      tied Less Less e = cc
      tied Less Equal e = cc
      tied Less Greater e = refl
      tied Equal Less e = cc
      tied Equal Equal e = refl
      tied Equal Greater e = cc
      tied Greater Less e = refl
      tied Greater Equal e = cc
      tied Greater Greater e = cc

  pub firsts_from_sort : (old sorted : List T) → IsSortedByKey key cmp sorted → IsStableByKey key cmp old sorted
      → AreFirst cmp key old (dedup same_key sorted)
  firsts_from_sort old sorted ascends stable = All-weaker (Contains new) (λ r. find (same_key r) old ≡ Some r)
      (λ r is. found r is) new (All-contains_itself new)
    where
      new : List T
      new = dedup same_key sorted

      found : (r : T) → Contains new r → find (same_key r) old ≡ Some r
      found r is =
          let stays = find_agree (same_key r) (ties (λ a b. is_lt (cmp (key a) (key b))) r) (ties_are_same r) old sorted
          (sym (stable r)) in
          let dropped = find-dedup same_key (same_key r) (λ x y alike. same.symm r x
          ∙ (same.congr x y r alike ∙ same.symm y r)) sorted in
          stays ∙ (sym dropped ∙ find_itself new r
          (IsStrictlySortedBy-dedup (on_total key total) (λ x y. refl) sorted ascends) is)
