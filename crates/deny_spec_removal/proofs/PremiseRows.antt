-- Why no ban may lose its last wrapper: the ban of a crate without dependents is waived by any wrapper, though none is
-- hit, and holds without one. And why what is hit has to stay: without an ignore that is hit another is hit in its
-- place, and without any the crate is reported; without an exception that is hit a licence is hit, and without any the
-- crate is rejected; without a skip that is hit its crate is checked for wildcards.
use Rattle.std.proofs.Common.{◌≡◌, [], ◌∷◌, codes, refl}
use Rattle.deny_base.specs.Entry.{entry_kind_number}
use Rattle.deny_base.specs.declared.code.Code.TheVariants as code
use Rattle.deny_base.specs.declared.entry.EntryId.{EntryId}
use Rattle.deny_base.specs.declared.entry.EntryKind.TheVariants.{LicenseAllow, LicenseException, Skip, Wrapper}
use Rattle.deny_base.specs.declared.license_code.LicenseCode.TheVariants as license
use Rattle.deny_spdx.proofs.TruthLemmas.{truth-requirement}
use Rattle.deny_spec.specs.Keys.{crate_key, unused_key}
use Rattle.deny_spec.specs.Policy.{Policy}
use Rattle.deny_spec.specs.View.{View}
use Rattle.deny_spec_report.specs.Licences.{licence_hits, not_encountered_keys, rejected_keys}
use Rattle.deny_spec_report.specs.StdReplacements.{replaced_key}
use Rattle.deny_spec_report.specs.Wildcards.{wildcard_keys}
use Rattle.deny_spec_report.proofs.Cases.{all_count, app, ban_at, ban_keys, bans_on_cases, entry_at, one_x, plain, span}
use Rattle.deny_spec_report.proofs.Cases.{spanned_at}
use Rattle.deny_spec_report.proofs.LicenceRows.{alone, every, excepted_by, hit_by, licences_on_cases, mit_in_both, of_x}
use Rattle.deny_spec_report.proofs.LicenceRows.{unmet}
use Rattle.deny_spec_report.proofs.ManifestCases.{any_version, behind, seeing, written}
use Rattle.deny_spec_report.proofs.WildcardRows.{checking, one_holds, wildcards_on_cases}
use Rattle.deny_spec_removal.specs.Removal.{cut_licensing, is_taken, without}
use Rattle.deny_spec_removal.specs.WrapperRemoval.{without_wrappers}
use Rattle.deny_spec_removal.proofs.IgnoreCases.{hit_by_x, hits_by, ignore, ignores_on_cases, replaced_by, two_ignores}

lone_wrapper : Policy
lone_wrapper = record plain { deny = ban_at (codes "app") (spanned_at (codes "z") 45 ∷ []) 27 ∷ [] }

waived : ban_keys lone_wrapper one_x ≡ unused_key code.UnusedWrapper (span 45) ∷ []
unfolding bans_on_cases lone_wrapper
waived = refl

banned_anew : ban_keys (without_wrappers lone_wrapper (record { kind = Wrapper; range = span 45 } ∷ [])) one_x
    ≡ crate_key code.Banned 0 (span 27) ∷ []
unfolding bans_on_cases lone_wrapper is_taken entry_kind_number
banned_anew = refl

-- ---- an ignore that is hit

another_is_hit : hits_by (without two_ignores (ignore (span 29) ∷ [])) ≡ hit_by_x (span 39) ∷ []
unfolding ignores_on_cases is_taken entry_kind_number
another_is_hit = refl

reported_anew : replaced_by (without two_ignores (ignore (span 29) ∷ ignore (span 39) ∷ [])) ≡ replaced_key 1 ∷ []
unfolding ignores_on_cases is_taken entry_kind_number
reported_anew = refl

-- ---- an exception that is hit

abbrev of_mit : EntryId
of_mit = record { kind = LicenseException; range = span 40 }

by_exception : (licence_hits every mit_in_both (alone (codes "MIT")) ≡ excepted_by (codes "x") 40 ∷ [])
    × (not_encountered_keys every mit_in_both (alone (codes "MIT")) ≡ unmet 20 ∷ [])
unfolding licences_on_cases mit_in_both
by_exception = (refl, refl)

licence_is_hit : (licence_hits every (cut_licensing (of_mit ∷ []) mit_in_both) (alone (codes "MIT"))
    ≡ hit_by (codes "x") 20 ∷ [])
    × (not_encountered_keys every (cut_licensing (of_mit ∷ []) mit_in_both) (alone (codes "MIT")) ≡ [])
unfolding licences_on_cases mit_in_both is_taken entry_kind_number
licence_is_hit = (refl, refl)

rejected_anew : rejected_keys every
    (cut_licensing (of_mit ∷ record { kind = LicenseAllow; range = span 20 } ∷ []) mit_in_both) (alone (codes "MIT"))
    ≡ of_x license.Rejected ∷ []
unfolding licences_on_cases mit_in_both is_taken entry_kind_number
rejected_anew = simp truth-requirement refl

-- ---- a skip that is hit

unfoldable app_skipped : Policy
app_skipped = record checking { skip = entry_at (codes "app") 35 ∷ [] }

abbrev wildcard : View
wildcard = seeing (written any_version 1 10 ∷ [])

not_asked : wildcard_keys app_skipped (behind app) all_count wildcard ≡ []
unfolding wildcards_on_cases app_skipped
not_asked = refl

asked_anew : wildcard_keys (without app_skipped (record { kind = Skip; range = span 35 } ∷ [])) (behind app) all_count
    wildcard ≡ one_holds
unfolding wildcards_on_cases app_skipped is_taken entry_kind_number
asked_anew = refl
