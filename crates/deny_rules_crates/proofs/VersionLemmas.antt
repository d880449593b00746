-- Crates in the order of their versions: the order, and that it lists crates with distinct ids.
use Rattle.deny_base_lists.proofs.Each.{all_filter, all_of_take}
use Rattle.std.proofs.Common.{◌≡◌, ◌+◌, ◌≢◌, ℕ, zero, suc, Bool, true, false, List, [], ◌∷◌, Contains, AllPairs, map}
use Rattle.std.proofs.Common.{filter, length, take, drop, get_or, sym, ap, ◌∙◌, arith}
use Rattle.std.specs.Cmp.{IsTotalOrder, nat_cmp_total, on_total, then_total}
use Rattle.std.specs.Cmp.Lexicographic.{slice_cmp, nat_list_cmp_total}
use Rattle.std.specs.FinMap.{nat_cmp-IsAntisymmetric, slice_cmp-IsAntisymmetric}
use Rattle.std.specs.List.{IsDistinct}
use Rattle.std.specs.List.Sorted.{IsStrictlySortedBy, IsSortedBy, IsPermutation}
use Rattle.std.specs.Ordering.{nat_cmp, is_lt}
use Rattle.std.specs.declared.cmp.Ordering.TheVariants.{Equal}
use Rattle.std.proofs.lemmas.Bool.{cond_both, false≢true}
use Rattle.std.proofs.lemmas.List.{get_or-map, length-map}
use Rattle.std.proofs.lemmas.List.Sorted.{IsPermutation-map, IsPermutation-sym, Contains-permutation}
use Rattle.std.proofs.lemmas.Map.Keys.{IsDistinct-IsPermutation, IsDistinct-cons, apart_from_distinct}
use Rattle.std.proofs.lemmas.Map.Keys.{sorted_from_all_adjacent}
use Rattle.std.proofs.lemmas.Slice.Eq.{bytes_eq-Decides}
use Rattle.semver.specs.OrderLaws.{pre_total}
use Rattle.semver.specs.Parse.{Parts}
use Rattle.deny_base_lists.proofs.Orders.{then_second, less_from_reverse}
use Rattle.deny_base_lists.specs.Ascending.{Lists}
use Rattle.deny_spec.specs.Graph.{Crate}
use Rattle.deny_spec.specs.VersionOrder.{precedence, version_cmp}
use Rattle.deny_spec.proofs.IdLemmas.{same_id-flips, distinct-ids}
use Rattle.deny_rules_crates.specs.private.Duplicates.{same_id}

precedence-total : IsTotalOrder precedence
precedence-total =
    then_total (on_total (λ (v : Parts). v.0) nat_cmp_total)
    (then_total (on_total (λ (v : Parts). v.1) nat_cmp_total)
    (then_total (on_total (λ (v : Parts). v.2) nat_cmp_total)
    (on_total (λ (v : Parts). v.3) pre_total)))

pub version_cmp-total : IsTotalOrder version_cmp
version_cmp-total = then_total (on_total (λ (c : Crate). c.version) precedence-total)
    (on_total (λ (c : Crate). c.id) nat_list_cmp_total)

-- crates that tie in the order have one id
ties : (a b : Crate) → version_cmp a b ≡ Equal → same_id a b ≡ true
ties a b e =
    (bytes_eq-Decides a.id b.id).1
    (slice_cmp-IsAntisymmetric nat_cmp-IsAntisymmetric a.id b.id
    (then_second (precedence a.version b.version) (slice_cmp nat_cmp a.id b.id) e))

module _ {X : Type 0} (view : X → Crate) where
  ascends : (xs : List X) → IsSortedBy (λ a b. is_lt (version_cmp (view a) (view b))) xs
      → IsDistinct same_id (map view xs) → IsStrictlySortedBy version_cmp (map view xs)
  unfolding IsStrictlySortedBy
  ascends [] up apart = tt
  ascends (x ∷ xs) up apart =
      let ys : List Crate = map view (x ∷ xs) in
      let d : Crate = view x in
      sorted_from_all_adjacent version_cmp-total ys d (λ k within.
      let size : length ys ≡ length (x ∷ xs) = length-map (x ∷ xs) view in
      let at = get_or-map view (x ∷ xs) k x d (omega (arith, size)) in
      let next = get_or-map view (x ∷ xs) (k + 1) x d (omega (arith, size)) in
      let unlike = apart_from_distinct same_id ys k (k + 1) d apart (omega arith) within in
      let up_here : is_lt (version_cmp (get_or ys (k + 1) d) (get_or ys k d)) ≡ false =
      ap (λ b. is_lt (version_cmp b (get_or ys k d))) next
      ∙ (ap (λ a. is_lt (version_cmp (view (get_or (x ∷ xs) (k + 1) x)) a)) at
      ∙ up k x (omega arith) (omega (arith, size))) in
      less_from_reverse (version_cmp (get_or ys k d) (get_or ys (k + 1) d))
      (version_cmp (get_or ys (k + 1) d) (get_or ys k d))
      (version_cmp-total.antisymm (get_or ys k d) (get_or ys (k + 1) d)) up_here
      (λ e. false≢true (sym unlike ∙ ties (get_or ys k d) (get_or ys (k + 1) d) e)))

  -- a sort lists crates whose ids differ
  pub lists_by_version : (old new : List X) → IsPermutation old new
      → IsSortedBy (λ a b. is_lt (version_cmp (view a) (view b))) new → IsDistinct same_id (map view old)
      → Lists version_cmp (Contains (map view old)) (map view new)
  lists_by_version old new moved up apart =
      let moved_views = IsPermutation-map view old new moved in
      record {
        ascending = ascends new up (IsDistinct-IsPermutation same_id same_id-flips (map view old)
            (map view new) moved_views apart);
        whole = λ c is. Contains-permutation (map view old) (map view new) c moved_views is;
        sound = λ c is. Contains-permutation (map view new) (map view old) c
            (IsPermutation-sym (map view old) (map view new) moved_views) is;
      }

distinct-filter : {X : Type 0} (same : X → X → Bool) (p : X → Bool) (xs : List X) → IsDistinct same xs
    → IsDistinct same (filter p xs)
unfolding IsDistinct
distinct-filter same p [] apart = tt
distinct-filter same p (x ∷ xs) apart =
    cond_both (p x) (x ∷ filter p xs) (filter p xs) (λ ys. IsDistinct same ys)
    (λ e. IsDistinct-cons same x (filter p xs) (all_filter (λ y. same x y ≡ false) p xs apart.0)
    (distinct-filter same p xs apart.1))
    (λ e. distinct-filter same p xs apart.1)

distinct-take : {X : Type 0} (same : X → X → Bool) (n : ℕ) (xs : List X) → IsDistinct same xs
    → IsDistinct same (take n xs)
unfolding IsDistinct
distinct-take same zero xs apart = tt
distinct-take same (suc n) [] apart = tt
distinct-take same (suc n) (x ∷ xs) apart = IsDistinct-cons same x (take n xs)
    (all_of_take (λ y. same x y ≡ false) n xs apart.0) (distinct-take same n xs apart.1)

distinct-drop : {X : Type 0} (same : X → X → Bool) (n : ℕ) (xs : List X) → IsDistinct same xs
    → IsDistinct same (drop n xs)
unfolding IsDistinct
distinct-drop same zero xs apart = apart
distinct-drop same (suc n) [] apart = tt
distinct-drop same (suc n) (x ∷ xs) apart = distinct-drop same n xs apart.1

pub distinct-run : (crates : List Crate) (t : Crate → Bool) (size start : ℕ) → AllPairs (λ c d. c.id ≢ d.id) crates
    → IsDistinct same_id (filter t (take size (drop start crates)))
distinct-run crates t size start apart =
    distinct-filter same_id t (take size (drop start crates))
    (distinct-take same_id size (drop start crates) (distinct-drop same_id start crates
    (distinct-ids crates apart)))
