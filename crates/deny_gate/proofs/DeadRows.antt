-- Worked cases of the hits and the dead entries of a report.
use Rattle.std.proofs.Common.{◌≡◌, ◌++◌, ℕ, List, [], ◌∷◌, codes, refl, subst, sym}
use Rattle.std.specs.Prelude.{Contains, filter_map, map}
use Rattle.std.specs.List.Sorted.{IsStrictlySortedBy}
use Rattle.deny_base_lists.proofs.Members.{Contains-by_cases, Contains-first, Contains-rest, no_member}
use Rattle.deny_base.proofs.EntryEqual.{entry_cmp-exact, entry_cmp-total}
use Rattle.deny_base.specs.Entry.{entry_cmp, entry_kind_number}
use Rattle.deny_base.specs.declared.entry.EntryId.{EntryId}
use Rattle.deny_base.specs.declared.entry.EntryKind.TheVariants.{LicenseAllow, LicenseException, Skip, Wrapper}
use Rattle.deny_base.specs.declared.entry.Hit.{Hit}
use Rattle.deny_base.specs.declared.entry.Witness.TheVariants.{Krate, Parent}
use Rattle.deny_base.specs.declared.key.Key.{Key}
use Rattle.deny_spec.specs.Graph.{kid_of}
use Rattle.deny_spec.specs.Hits.{all_hits, hit_of, skip_hit, wrapper_hit, wrapper_hit_at}
use Rattle.deny_spec.specs.Licensing.{Licensing}
use Rattle.deny_spec.specs.Policy.{Policy}
use Rattle.deny_spec_report.specs.Licences.{exception_not_encountered_keys, licence_hits, not_encountered_keys}
use Rattle.deny_spec_report.proofs.Cases.{all_count, app, ban_at, ban_keys, bans_on_cases, by_two, crate, entry_at}
use Rattle.deny_spec_report.proofs.Cases.{on_cases}
use Rattle.deny_spec_report.proofs.Cases.{one_x, plain, span, skip_keys, skips_on_cases, spanned_at}
use Rattle.deny_spec_report.proofs.LicenceRows.{allowed_at, alone, every, exception_at, granting, licence}
use Rattle.deny_spec_report.proofs.LicenceRows.{licences_on_cases}
use Rattle.deny_spec_report.proofs.LicenceRows.{mit}
use Rattle.deny_spec_removal.specs.Dead.{AreDead, unused_entry}
use Rattle.deny_gate.specs.private.Dead.{dead_entry, is_among}
use Rattle.deny_gate.specs.Hits.{AreHits, entry_of}
use Rattle.deny_gate.proofs.DeadEntries.{dead_listed}

-- the dead entries are those that keys name as unused and that have no hit, where the keys ascend
dead_are : (keys : List Key) (hits : List Hit) (dead : List EntryId)
    → filter_map (dead_entry (map entry_of hits)) keys ≡ dead → IsStrictlySortedBy entry_cmp dead
    → AreDead keys hits dead
dead_are keys hits dead are ascending = dead_listed entry_cmp-total entry_cmp-exact keys hits dead dead (sym are)
    (record { ascending = ascending; whole = λ e is. is; sound = λ e at. at })

-- ---- a wrapper is hit by the dependent that it names, and is not dead

one_wrapper : Policy
one_wrapper = record plain { deny = ban_at (codes "x") (spanned_at (codes "app") 45 ∷ []) 27 ∷ [] }

hit_by_parent : all_hits one_wrapper by_two all_count
    ≡ hit_of Wrapper (span 45) (Parent (kid_of (crate 1 (codes "x") 1)) (kid_of app)) ∷ []
unfolding bans_on_cases one_wrapper wrapper_hit wrapper_hit_at
hit_by_parent = refl

none_dead : AreDead (ban_keys one_wrapper by_two) (all_hits one_wrapper by_two all_count) []
unfolding bans_on_cases one_wrapper wrapper_hit wrapper_hit_at dead_entry unused_entry is_among IsStrictlySortedBy
none_dead = dead_are _ _ [] refl tt

-- ---- wrappers of a crate without dependents are dead, both

two_wrappers : Policy
two_wrappers = record plain {
  deny = ban_at (codes "app") (spanned_at (codes "z") 45 ∷ spanned_at (codes "y") 50 ∷ []) 27 ∷ [];
}

abbrev wrapper : ℕ → EntryId
wrapper start = record { kind = Wrapper; range = span start }

both_dead : AreDead (ban_keys two_wrappers one_x) (all_hits two_wrappers one_x all_count) (wrapper 45 ∷ wrapper 50 ∷ [])
unfolding bans_on_cases two_wrappers wrapper_hit dead_entry unused_entry is_among entry_kind_number IsStrictlySortedBy
both_dead = dead_are _ _ _ refl ((refl, tt), (tt, tt))

-- ---- a skip of a crate that is not there is dead, and one that is not needed is not

two_skips : Policy
two_skips = record plain { skip = entry_at (codes "x") 20 ∷ entry_at (codes "q") 35 ∷ [] }

one_dead : AreDead (skip_keys two_skips one_x all_count) (all_hits two_skips one_x all_count)
    (record { kind = Skip; range = span 35 } ∷ [])
unfolding skips_on_cases two_skips skip_hit dead_entry unused_entry is_among entry_kind_number IsStrictlySortedBy
one_dead = dead_are _ _ _ refl (tt, tt)

-- ---- a licence that no crate asks for is dead, and an exception for a crate that is not there; what is hit is not

three_licences : Licensing
three_licences = granting (allowed_at mit 20 ∷ allowed_at (licence (codes "Zlib")) 27 ∷ [])
    (exception_at (codes "q") 40 mit ∷ [])

licences_dead : AreDead
    (not_encountered_keys every three_licences (alone (codes "MIT"))
    ++ exception_not_encountered_keys every three_licences (alone (codes "MIT")))
    (licence_hits every three_licences (alone (codes "MIT")))
    (record { kind = LicenseAllow; range = span 27 } ∷ record { kind = LicenseException; range = span 40 } ∷ [])
unfolding licences_on_cases three_licences dead_entry unused_entry is_among entry_kind_number IsStrictlySortedBy
licences_dead = dead_are _ _ _ refl ((refl, tt), (tt, tt))

-- ---- hits are ordered by span, whatever their kinds

abbrev by_x : Hit
by_x = hit_of Skip (span 35) (Krate (kid_of (crate 1 (codes "x") 1)))

abbrev by_app : Hit
by_app = hit_of Wrapper (span 20) (Krate (kid_of app))

by_span : AreHits (by_x ∷ by_app ∷ []) (by_app ∷ by_x ∷ [])
unfolding on_cases entry_kind_number IsStrictlySortedBy
by_span = record {
  ascending = ((refl, tt), (tt, tt));
  whole = λ h at. Contains-by_cases by_x (by_app ∷ []) h at
      (λ same. subst (Contains (by_app ∷ by_x ∷ [])) same
      (Contains-rest by_app (by_x ∷ []) by_x (Contains-first by_x [])))
      (λ later. Contains-by_cases by_app [] h later
      (λ same. subst (Contains (by_app ∷ by_x ∷ [])) same (Contains-first by_app (by_x ∷ [])))
      (λ none. absurd (no_member h none)));
  sound = λ h at. Contains-by_cases by_app (by_x ∷ []) h at
      (λ same. subst (Contains (by_x ∷ by_app ∷ [])) same
      (Contains-rest by_x (by_app ∷ []) by_app (Contains-first by_app [])))
      (λ later. Contains-by_cases by_x [] h later
      (λ same. subst (Contains (by_x ∷ by_app ∷ [])) same (Contains-first by_x (by_app ∷ [])))
      (λ none. absurd (no_member h none)));
}
