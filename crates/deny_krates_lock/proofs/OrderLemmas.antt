-- Crates of which no two share an id have one order of their lines, whatever sorts them.
use Rattle.std.proofs.Common.{◌≡◌, ◌≢◌, ◌+◌, ◌∙◌, Bool, true, false, List, [], ◌∷◌, Contains, AllPairs, cond, map}
use Rattle.std.proofs.Common.{length, get_or, refl, sym, ap, arith}
use Rattle.std.specs.Cmp.{IsTotalOrder, nat_cmp_total, on_total, then_total}
use Rattle.std.specs.Cmp.Lexicographic.{nat_list_cmp_total, slice_cmp}
use Rattle.std.specs.List.{AllByRecursion, IsDistinct}
use Rattle.std.specs.List.Sorted.{IsPermutation, IsSortedBy, IsStrictlySortedBy}
use Rattle.std.specs.Ordering.{is_lt, nat_cmp}
use Rattle.std.specs.declared.cmp.Ordering.TheVariants.{Less, Equal}
use Rattle.std.proofs.lemmas.Bool.{false≢true}
use Rattle.std.proofs.lemmas.List.{get_or-map, length-map}
use Rattle.std.proofs.lemmas.List.Sorted.{Contains-permutation, IsPermutation-cons, IsPermutation-map}
use Rattle.std.proofs.lemmas.List.Sorted.{IsPermutation-middle, IsPermutation-refl, IsPermutation-sym}
use Rattle.std.proofs.lemmas.List.Sorted.{IsPermutation-trans}
use Rattle.std.proofs.lemmas.Map.Keys.{IsDistinct-IsPermutation, apart_from_distinct, sorted_from_all_adjacent}
use Rattle.std.proofs.lemmas.Slice.Eq.{bytes_eq-Decides}
use Rattle.semver.specs.OrderLaws.{pre_total}
use Rattle.semver.specs.Parse.{Parts}
use Rattle.deny_base_lists.proofs.Orders.{text_cmp-exact, then_second, less_from_is_lt, less_from_reverse}
use Rattle.deny_base_lists.proofs.Sorted.{one_list}
use Rattle.deny_base_lists.specs.Ascending.{Lists}
use Rattle.deny_krates_lock.specs.Order.{in_lock_order, lock_cmp, with_crate}
use Rattle.deny_spec.specs.Graph.{Crate}
use Rattle.deny_spec.specs.Ids.{same_id}
use Rattle.deny_spec.specs.VersionOrder.{precedence, version_cmp}
use Rattle.deny_spec.proofs.IdLemmas.{same_id-flips, distinct-ids}

-- ---- the order is total, and crates that tie have one id

pub lock_cmp-total : IsTotalOrder lock_cmp
lock_cmp-total =
    then_total (on_total (λ (c : Crate). c.name) nat_list_cmp_total)
    (then_total (on_total (λ (c : Crate). c.version) (then_total (on_total (λ (v : Parts). v.0) nat_cmp_total)
    (then_total (on_total (λ (v : Parts). v.1) nat_cmp_total)
    (then_total (on_total (λ (v : Parts). v.2) nat_cmp_total)
    (on_total (λ (v : Parts). v.3) pre_total)))))
    (on_total (λ (c : Crate). c.id) nat_list_cmp_total))

tie : (a b : Crate) → lock_cmp a b ≡ Equal → a.id ≡ b.id
tie a b e =
    text_cmp-exact a.id b.id
    (then_second (precedence a.version b.version) (slice_cmp nat_cmp a.id b.id)
    (then_second (slice_cmp nat_cmp a.name b.name) (version_cmp a b) e))

ties : (a b : Crate) → lock_cmp a b ≡ Equal → same_id a b ≡ true
ties a b e = (bytes_eq-Decides a.id b.id).1 (tie a b e)

-- crates with different ids do not tie
no_tie : (a b : Crate) → same_id a b ≡ false → lock_cmp a b ≡ Equal → ⊥
no_tie a b unlike e = false≢true (sym unlike ∙ ties a b e)

-- ---- the result of a sort ascends

module _ {X : Type 0} (view : X → Crate) where
  ascends : (xs : List X) → IsSortedBy (λ a b. is_lt (lock_cmp (view a) (view b))) xs
      → IsDistinct same_id (map view xs) → IsStrictlySortedBy lock_cmp (map view xs)
  unfolding IsStrictlySortedBy
  ascends [] up apart = tt
  ascends (x ∷ xs) up apart =
      let ys : List Crate = map view (x ∷ xs) in
      let d : Crate = view x in
      sorted_from_all_adjacent lock_cmp-total ys d (λ k within.
      let size : length ys ≡ length (x ∷ xs) = length-map (x ∷ xs) view in
      let at = get_or-map view (x ∷ xs) k x d (omega (arith, size)) in
      let next = get_or-map view (x ∷ xs) (k + 1) x d (omega (arith, size)) in
      let unlike = apart_from_distinct same_id ys k (k + 1) d apart (omega arith) within in
      let up_here : is_lt (lock_cmp (get_or ys (k + 1) d) (get_or ys k d)) ≡ false =
      ap (λ b. is_lt (lock_cmp b (get_or ys k d))) next
      ∙ (ap (λ a. is_lt (lock_cmp (view (get_or (x ∷ xs) (k + 1) x)) a)) at
      ∙ up k x (omega arith) (omega (arith, size))) in
      less_from_reverse (lock_cmp (get_or ys k d) (get_or ys (k + 1) d))
      (lock_cmp (get_or ys (k + 1) d) (get_or ys k d))
      (lock_cmp-total.antisymm (get_or ys k d) (get_or ys (k + 1) d)) up_here
      (no_tie (get_or ys k d) (get_or ys (k + 1) d) unlike))

-- ---- crates in the order of lines ascend

all_with : (P : Crate → Type 0) (ds : List Crate) (c : Crate) → AllByRecursion P ds → P c
    → AllByRecursion P (with_crate ds c)
unfolding with_crate
all_with P [] c all here = (here, tt)
all_with P (d ∷ ds) c all here = elim (is_lt (lock_cmp c d))
    as (λ b. AllByRecursion P (cond b (c ∷ (d ∷ ds)) (d ∷ with_crate ds c))) [
      | true ↦ (here, all)
      | false ↦ (all.0, all_with P ds c all.1 here)
    ]

all_in_order : (P : Crate → Type 0) (cs : List Crate) → AllByRecursion P cs → AllByRecursion P (in_lock_order cs)
unfolding in_lock_order
all_in_order P [] all = tt
all_in_order P (c ∷ cs) all = all_with P (in_lock_order cs) c (all_in_order P cs all.1) all.0

-- what is below the first is below all
below_all : (c d : Crate) (ds : List Crate) → lock_cmp c d ≡ Less → AllByRecursion (λ e. lock_cmp d e ≡ Less) ds
    → AllByRecursion (λ e. lock_cmp c e ≡ Less) ds
below_all c d [] first all = tt
below_all c d (e ∷ ds) first all = (lock_cmp-total.trans c d e first all.0, below_all c d ds first all.1)

strict_by : (b : Bool) (c d : Crate) (ds : List Crate) → is_lt (lock_cmp c d) ≡ b → same_id c d ≡ false
    → IsStrictlySortedBy lock_cmp (d ∷ ds) → IsStrictlySortedBy lock_cmp (with_crate ds c)
    → IsStrictlySortedBy lock_cmp (cond b (c ∷ (d ∷ ds)) (d ∷ with_crate ds c))
unfolding IsStrictlySortedBy
strict_by true c d ds is unlike up rest =
    let first : lock_cmp c d ≡ Less = less_from_is_lt (lock_cmp c d) is in ((first, below_all c d ds first up.0), up)
strict_by false c d ds is unlike up rest =
    let under : lock_cmp d c ≡ Less = less_from_reverse (lock_cmp d c) (lock_cmp c d) (lock_cmp-total.antisymm d c) is
    (no_tie d c (same_id-flips d c ∙ unlike)) in
    (all_with (λ e. lock_cmp d e ≡ Less) ds c up.0 under, rest)

strict-with : (ds : List Crate) (c : Crate) → IsStrictlySortedBy lock_cmp ds
    → AllByRecursion (λ d. same_id c d ≡ false) ds → IsStrictlySortedBy lock_cmp (with_crate ds c)
unfolding with_crate IsStrictlySortedBy
strict-with [] c up apart = (tt, tt)
strict-with (d ∷ ds) c up apart =
    strict_by (is_lt (lock_cmp c d)) c d ds refl apart.0 up (strict-with ds c up.1 apart.1)

pub strict-in_lock_order : (cs : List Crate) → IsDistinct same_id cs → IsStrictlySortedBy lock_cmp (in_lock_order cs)
unfolding in_lock_order IsStrictlySortedBy IsDistinct
strict-in_lock_order [] apart = tt
strict-in_lock_order (c ∷ cs) apart = strict-with (in_lock_order cs) c (strict-in_lock_order cs apart.1)
    (all_in_order (λ d. same_id c d ≡ false) cs apart.0)

-- ---- the order of lines has the same crates

moved-with : (ds : List Crate) (c : Crate) → IsPermutation (c ∷ ds) (with_crate ds c)
unfolding with_crate
moved-with [] c = IsPermutation-refl (c ∷ [])
moved-with (d ∷ ds) c = elim (is_lt (lock_cmp c d))
    as (λ b. IsPermutation (c ∷ (d ∷ ds)) (cond b (c ∷ (d ∷ ds)) (d ∷ with_crate ds c))) [
      | true ↦ IsPermutation-refl (c ∷ (d ∷ ds))
      | false ↦ IsPermutation-trans (c ∷ (d ∷ ds)) (d ∷ (c ∷ ds)) (d ∷ with_crate ds c)
          (IsPermutation-middle (c ∷ []) d ds)
          (IsPermutation-cons d (c ∷ ds) (with_crate ds c) (moved-with ds c))
    ]

pub moved-in_lock_order : (cs : List Crate) → IsPermutation cs (in_lock_order cs)
unfolding in_lock_order
moved-in_lock_order [] = IsPermutation-refl []
moved-in_lock_order (c ∷ cs) =
    IsPermutation-trans (c ∷ cs) (c ∷ in_lock_order cs) (with_crate (in_lock_order cs) c)
    (IsPermutation-cons c cs (in_lock_order cs) (moved-in_lock_order cs)) (moved-with (in_lock_order cs) c)

lists-moved : (xs ys : List Crate) → IsPermutation xs ys → IsStrictlySortedBy lock_cmp ys
    → Lists lock_cmp (Contains xs) ys
lists-moved xs ys moved up = record {
  ascending = up;
  whole = λ c is. Contains-permutation xs ys c moved is;
  sound = λ c is. Contains-permutation ys xs c (IsPermutation-sym xs ys moved) is;
}

-- a sort by this order gives the order of lines
pub sorted-is : {X : Type 0} (view : X → Crate) (old new : List X) → AllPairs (λ c d. c.id ≢ d.id) (map view old)
    → IsPermutation old new → IsSortedBy (λ a b. is_lt (lock_cmp (view a) (view b))) new
    → map view new ≡ in_lock_order (map view old)
sorted-is view old new apart moved up =
    let ids : IsDistinct same_id (map view old) = distinct-ids (map view old) apart in
    let views : IsPermutation (map view old) (map view new) = IsPermutation-map view old new moved in
    one_list lock_cmp-total (map view new) (in_lock_order (map view old))
    (lists-moved (map view old) (map view new) views
    (ascends view new up (IsDistinct-IsPermutation same_id same_id-flips (map view old) (map view new) views ids)))
    (lists-moved (map view old) (in_lock_order (map view old)) (moved-in_lock_order (map view old))
    (strict-in_lock_order (map view old) ids))
