-- Hits in the order of their entries.
use Rattle.std.proofs.Common.{◌≡◌, Bool, List, refl, subst, sym}
use Rattle.std.specs.Prelude.{Contains, map, ⊤}
use Rattle.std.specs.Cmp.{Equal-is, IsEquivalence, IsTotalOrder, eq_by_cmp_equiv}
use Rattle.std.specs.FinMap.{IsAntisymmetric}
use Rattle.std.specs.List.{dedup}
use Rattle.std.specs.List.Sorted.{IsPermutation, IsSortedByKey, IsStrictlySortedBy}
use Rattle.std.specs.Ordering.{eq_by_cmp}
use Rattle.std.proofs.lemmas.Cmp.{on_total}
use Rattle.std.proofs.lemmas.List.Kept.{Any-dedup, Contains-from_dedup, IsStrictlySortedBy-dedup}
use Rattle.std.proofs.lemmas.List.Sorted.{Contains-permutation, IsPermutation-sym}
use Rattle.deny_base_lists.proofs.Sorted.{ascends_map}
use Rattle.deny_base.specs.Entry.{entry_cmp}
use Rattle.deny_base.specs.declared.entry.Hit.{Hit}
use Rattle.deny_gate.specs.Hits.{AreHits, entry_of, hit_cmp}
use Rattle.deny_gate.specs.private.Hits.{IsOneEach}

abbrev pub same_entry : Hit → Hit → Bool
same_entry h k = eq_by_cmp entry_cmp (entry_of h) (entry_of k)

-- sorting by entries and dropping repeats drops no hit, where no two have the same entry
module _ (total : IsTotalOrder entry_cmp) (exact : IsAntisymmetric entry_cmp) where
  same : IsEquivalence same_entry
  same = eq_by_cmp_equiv (on_total entry_of total)

  pub hits_from_sort : (old sorted : List Hit) → IsOneEach old → IsPermutation old sorted
      → IsSortedByKey entry_of entry_cmp sorted → AreHits old (dedup same_entry sorted)
  hits_from_sort old sorted one moved ascends = record {
    ascending = IsStrictlySortedBy-dedup (on_total entry_of total) (λ h k. refl) sorted ascends;
    whole = λ h at.
        let kept = Any-dedup same sorted h (Contains-permutation old sorted h moved at) in
        let among : Contains (dedup same_entry sorted) kept.1 = (kept.0, kept.2, kept.3) in
        let stood = Contains-permutation sorted old kept.1 (IsPermutation-sym old sorted moved)
        (Contains-from_dedup same_entry sorted kept.1 among) in
        let equal : entry_of h ≡ entry_of kept.1 =
        exact (entry_of h) (entry_of kept.1) ((Equal-is (entry_cmp (entry_of h) (entry_of kept.1))).0 kept.4) in
        subst (Contains (dedup same_entry sorted)) (one kept.1 h stood at (sym equal)) among;
    sound = λ h at. Contains-permutation sorted old h (IsPermutation-sym old sorted moved)
        (Contains-from_dedup same_entry sorted h at);
  }

-- the entries of ascending hits ascend
pub entries_ascend : (hits : List Hit) → IsStrictlySortedBy hit_cmp hits
    → IsStrictlySortedBy entry_cmp (map entry_of hits)
entries_ascend hits up = ascends_map hit_cmp entry_cmp entry_of (λ h. ⊤) hits (λ h k one other below. below)
    (λ h at. tt) up
