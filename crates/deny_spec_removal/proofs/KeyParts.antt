-- Keys of two lists that are equal, or of which one is a part of the other, and keys that name no entry that is taken
-- out.
use Rattle.std.proofs.Common.{◌≡◌, ◌++◌, ◌∙◌, ◌∷◌, Bool, List, [], ap, false, map, not, refl, subst, sym, true}
use Rattle.std.specs.Prelude.{◌↔◌, Contains, IsTrue, filter, if◌then◌else◌}
use Rattle.std.proofs.lemmas.Bool.{not-true}
use Rattle.std.proofs.lemmas.List.Elements.{filter-append}
use Rattle.deny_base_lists.proofs.Members.{Contains-filter, Contains-from_filter, Contains-same}
use Rattle.deny_base.specs.declared.code.DiagnosticCode.TheVariants.{License}
use Rattle.deny_base.specs.declared.entry.EntryId.{EntryId}
use Rattle.deny_base.specs.declared.key.Key.{Key}
use Rattle.deny_base.specs.declared.license_code.LicenseCode.{LicenseCode}
use Rattle.deny_base.specs.declared.license_code.LicenseCode.TheVariants as license
use Rattle.deny_spec.specs.Counting.{Counts}
use Rattle.deny_spec.specs.Graph.{Crate, Graph}
use Rattle.deny_spec.specs.Licensing.{Licensing}
use Rattle.deny_spec_report.specs.Licences.{IsByCounting, TestsCounting}
use Rattle.deny_spec_removal.specs.Removal.{NoLicences, names, names_as, unnaming}

-- ---- keys that name no entry that is taken out

abbrev pub AllStay : List EntryId → List Key → Type 0
AllStay taken keys = unnaming taken keys ≡ keys

pub both_stay : (taken : List EntryId) (xs ys : List Key) → AllStay taken xs → AllStay taken ys
    → AllStay taken (xs ++ ys)
both_stay taken xs ys one other = filter-append (λ key. not (names taken key)) xs ys
    ∙ (ap (λ (keys : List Key). keys ++ unnaming taken ys) one ∙ ap (λ (keys : List Key). xs ++ keys) other)

pub all_made_stay : {X : Type 0} (taken : List EntryId) (k : X → Key) (xs : List X)
    → ((x : X) → names taken (k x) ≡ false) → AllStay taken (map k xs)
all_made_stay taken k [] none = refl
all_made_stay taken k (x ∷ xs) none = rw (none x, all_made_stay taken k xs none) refl

-- the keys under a guard
pub stay_when : (taken : List EntryId) (guard : Bool) (xs : List Key) → AllStay taken xs
    → AllStay taken (if guard then xs else [])
stay_when taken true xs stay = stay
stay_when taken false xs stay = refl

pub when_guarded : (guard : Bool) (xs ys : List Key) → (guard ≡ true → xs ≡ ys)
    → (if guard then xs else []) ≡ (if guard then ys else [])
when_guarded true xs ys same = same refl
when_guarded false xs ys same = refl

-- ---- keys of two lists

pub kept_part : (named : Key → Bool) (xs ys : List Key) (key : Key) → xs ≡ filter (λ k. not (named k)) ys
    → Contains ys key → named key ≡ false → Contains xs key
kept_part named xs ys key same is unnamed =
    Contains-same (filter (λ k. not (named k)) ys) xs key (sym same)
    (Contains-filter (λ k. not (named k)) ys key is (ap (λ t. not t) unnamed))

pub from_part : (named : Key → Bool) (xs ys : List Key) (key : Key) → xs ≡ filter (λ k. not (named k)) ys
    → Contains xs key → Contains ys key × (named key ≡ false)
from_part named xs ys key same is =
    let kept = Contains-from_filter (λ k. not (named k)) ys key
    (Contains-same xs (filter (λ k. not (named k)) ys) key same is) in
    (kept.0, not-true (named key) kept.1)

-- a key is in a new list where it was in an old one, unless it names an entry that is taken out, and no other key is
abbrev pub StillListed : Bool → List Key → List Key → Key → Type 0
StillListed named old new key = (named ≡ false → Contains old key → Contains new key)
    × (Contains new key → Contains old key × (named ≡ false))

pub same_listed : (old new : List Key) (key : Key) (named : Bool) → named ≡ false → new ≡ old
    → StillListed named old new key
same_listed old new key named none same =
    (λ unnamed is. Contains-same old new key (sym same) is, λ is. (Contains-same new old key same is, none))

pub part_listed : (named : Key → Bool) (old new : List Key) (key : Key) → new ≡ filter (λ k. not (named k)) old
    → StillListed (named key) old new key
part_listed named old new key part =
    (λ unnamed is. kept_part named new old key part is unnamed, λ is. from_part named new old key part is)

-- keys by a test that is right about which crates count are keys by the same test where the same crates count
pub by_counting : (keys : (Crate → Bool) → Licensing → Graph → List Key) (l m : Licensing) (g : Graph) (old new : Key)
    → l.include_dev ≡ m.include_dev
    → ((counts : Crate → Bool) → TestsCounting l g counts → Contains (keys counts l g) old
    → Contains (keys counts m g) new)
    → IsByCounting keys l g old → IsByCounting keys m g new
by_counting keys l m g old new same along is = record {
  counts = is.counts;
  reports = subst
      (λ (dev : Bool). (c : Crate) → Contains g.crates c → IsTrue (is.counts c) ↔ Counts dev g c) same is.reports;
  listed = along is.counts is.reports is.listed;
}

-- a finding of the licence check names no entry that is taken out where no licence and no exception is
pub no_licence_named : (taken : List EntryId) (key : Key) → NoLicences taken → (d : LicenseCode)
    → names_as taken (License d) key ≡ false
no_licence_named taken key none license.LicenseNotEncountered = none.allowances key.entry
no_licence_named taken key none license.LicenseExceptionNotEncountered = none.exceptions key.entry
no_licence_named taken key none license.Accepted = refl
no_licence_named taken key none license.Rejected = refl
no_licence_named taken key none license.Unlicensed = refl
no_licence_named taken key none license.ParseError = refl
no_licence_named taken key none license.SkippedPrivateWorkspaceCrate = refl
