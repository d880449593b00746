-- The index that gains a name, and what it finds.
use Rattle.std.proofs.Common.{◌≡◌, ℕ, ◌+◌, ◌^◌, ◌<◌, ◌≤◌, List, [], ◌∷◌, ◌++◌, length, map, sym, ap, subst, inl}
use Rattle.std.proofs.Common.{inr, arith}
use Rattle.std.specs.Prelude.{Some, Contains, slice_get, unwrap_or}
use Rattle.std.specs.BTreeMap.{BTreeMap, is_at}
use Rattle.std.specs.Map.{lookup}
use Rattle.std.specs.Ordering.{nat_cmp}
use Rattle.std.specs.Cmp.Lexicographic.{nat_list_cmp_total}
use Rattle.std.proofs.lemmas.Bool.{cases_eq}
use Rattle.std.proofs.lemmas.Cmp.{nat_cmp_total}
use Rattle.std.proofs.lemmas.List.{length-map}
use Rattle.std.proofs.lemmas.Map.Keys.{sorted_from_strictly_increasing}
use Rattle.deny_base_lists.proofs.Members.{there, from_there, from_contains_map}
use Rattle.deny_base_lists.proofs.Sorted.{length-ascending}
use Rattle.deny_base_lists.specs.Prefix.{IsPrefix}
use Rattle.deny_base_lists.proofs.Inserting.{ascend_none}
use Rattle.deny_base_lists.proofs.Options.{none_is_no_some}
use Rattle.deny_cfg_index.specs.declared.bucket.Named.{Named}
use Rattle.deny_cfg_index.specs.Bucket.{name_of}
use Rattle.deny_cfg_index.specs.private.Bucket.{IsGap, IsExtended}
use Rattle.deny_cfg_index.specs.Hash.{hash_of}
use Rattle.deny_cfg_index.specs.Index.{bucket_at, IsBucket, IsIndexed}
use Rattle.deny_cfg_index.specs.private.Index.{Extends, GivesNumbers, GivesFirst}
use Rattle.deny_cfg_index.specs.private.Index.{BoundsSteps}
use Rattle.deny_cfg_index.specs.Names.{HasNumber, AreNumbers, HasNames}
use Rattle.deny_cfg_index.proofs.BucketLemmas.{bucket_kept, bucket_extended, gap_numbers}

-- ---- the index

bucket_none : (hash : ℕ) → IsBucket [] hash []
bucket_none hash = record {
  ascend = ascend_none name_of;
  each = λ p e at. none_is_no_some at;
  all = λ i name h hashed. none_is_no_some h;
}

pub indexed_none : {names : List (List ℕ)} {buckets : ℕ → List Named} → names ≡ []
    → ((hash : ℕ) → buckets hash ≡ []) → IsIndexed names buckets
indexed_none {names} {buckets} e none hash = subst (λ ns. IsBucket ns hash (buckets hash)) (sym e)
    (subst (IsBucket [] hash) (sym (none hash)) (bucket_none hash))

pub indexed_more : {names : List (List ℕ)} {name : List ℕ} {number : ℕ} {old new : ℕ → List Named}
    → number ≡ length names → IsIndexed names old → Extends old name number new → IsIndexed (names ++ name ∷ []) new
indexed_more {names} {name} {number} {old} {new} is x more hash = elim (cases_eq hash (hash_of name)) [
  | inl same ↦ subst (λ h. IsBucket (names ++ name ∷ []) h (new h)) (sym same)
      (bucket_extended names name (old (hash_of name)) (new (hash_of name)) (x (hash_of name))
      (subst (λ n. IsExtended (old (hash_of name)) name n (new (hash_of name))) is more.own))
  | inr other ↦ subst (IsBucket (names ++ name ∷ []) hash) (sym (more.others hash other))
      (bucket_kept names name hash (old hash) other (x hash))
]

-- ---- the map of the buckets

pub bucket_empty : (buckets : BTreeMap ℕ (List Named)) (hash : ℕ) → buckets.entries ≡ [] → bucket_at buckets hash ≡ []
bucket_empty buckets hash none = ap (λ es. unwrap_or (lookup (is_at (nat_cmp hash)) es) []) none

pub bucket_of_hash : {names : List (List ℕ)} {buckets : ℕ → List Named} {hash : ℕ} {bucket : List Named}
    → IsIndexed names buckets → bucket ≡ buckets hash → IsBucket names hash bucket
bucket_of_hash {names} {buckets} {hash} x is = subst (IsBucket names hash) (sym is) (x hash)

-- ---- the numbers that are found

pub gives_named : {bucket : List Named} {name : List ℕ} (index : ℕ) (named : Named)
    → slice_get bucket index ≡ Some named → named.name ≡ name → GivesNumbers bucket name named.numbers
gives_named index named at is names x =
    subst (λ n. AreNumbers names n named.numbers) is (x.each index named at).are

pub gives_first : {bucket : List Named} {name numbers : List ℕ} (index : ℕ) (named : Named)
    → slice_get bucket index ≡ Some named → named.name ≡ name → IsPrefix named.numbers numbers
    → GivesFirst bucket name numbers
gives_first index named at is first names x = record
    { whole = named.numbers; are = gives_named index named at is names x; first = first }

pub gives_none : {bucket : List Named} {name : List ℕ} (index : ℕ) → IsGap bucket name index
    → GivesNumbers bucket name []
gives_none {bucket} {name} index gap names x = gap_numbers names name bucket index x gap

-- ---- the steps

names_fewer : (names : List (List ℕ)) (hash : ℕ) (bucket : List Named) (different : List (List ℕ))
    → IsBucket names hash bucket → HasNames names different → length bucket ≤ length different
names_fewer names hash bucket different x has = omega (
  arith,
  length-ascending nat_list_cmp_total (map name_of bucket) different x.ascend listed,
  length-map bucket name_of,
) where
  has_at : (i : ℕ) (name : List ℕ) → HasNumber names name i → Contains different name
  has_at i name h = has name (from_there names i name h)

  listed : (z : List ℕ) → Contains (map name_of bucket) z → Contains different z
  listed z h =
      let from = from_contains_map name_of bucket z h in
      let at = there bucket from.0 from.1 in
      let entry = x.each at.0 from.0 at.1 in
      subst (λ n. Contains different n) from.2
      (has_at entry.some.0 (name_of from.0) ((entry.are.exact entry.some.0).0 entry.some.1))

pub bound_named : {bucket : List Named} {name : List ℕ} (index start middle end : ℕ) (named : Named)
    → slice_get bucket index ≡ Some named → named.name ≡ name
    → ((d : ℕ) → length bucket < 2 ^ d → middle ≤ start + d) → end ≤ middle + length named.numbers
    → BoundsSteps bucket name start end
bound_named {bucket} {name} index start middle end named at is search_bound given names x different hits d has covers
    less =
    let are = gives_named index named at is names x in
    let fewer = length-ascending nat_cmp_total named.numbers hits
    (sorted_from_strictly_increasing named.numbers are.ascending) (λ i c. covers i ((are.exact i).0 c)) in
    let first = search_bound d (omega (arith, less, names_fewer names (hash_of name) bucket different x has)) in
    omega (arith, first, fewer, given)

pub bound_none : {bucket : List Named} {name : List ℕ} (start end : ℕ)
    → ((d : ℕ) → length bucket < 2 ^ d → end ≤ start + d) → BoundsSteps bucket name start end
bound_none {bucket} {name} start end search_bound names x different hits d has covers less =
    let first = search_bound d (omega (arith, less, names_fewer names (hash_of name) bucket different x has)) in
    omega (arith, first)
