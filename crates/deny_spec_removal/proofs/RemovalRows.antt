-- Worked cases of removal: the keys and the hits before and after.
use Rattle.std.proofs.Common.{◌≡◌, ℕ, [], ◌∷◌, None, codes, refl}
use Rattle.std.specs.Prelude.{filter_map}
use Rattle.deny_base.specs.Entry.{entry_kind_number}
use Rattle.deny_base.specs.declared.code.Code.TheVariants as code
use Rattle.deny_base.specs.declared.entry.EntryId.{EntryId}
use Rattle.deny_base.specs.declared.entry.EntryKind.TheVariants.{LicenseAllow, LicenseException, Skip, SkipRoot}
use Rattle.deny_base.specs.declared.entry.EntryKind.TheVariants.{Wrapper}
use Rattle.deny_spec.specs.Expired.{PastWaiver, expired_key, expired_keys}
use Rattle.deny_spec.specs.Hits.{all_hits, wrapper_hit}
use Rattle.deny_spec.specs.Keys.{crate_key, unused_key}
use Rattle.deny_spec.specs.Licensing.{Licensing}
use Rattle.deny_spec.specs.Policy.{Policy}
use Rattle.deny_spec.specs.View.{View}
use Rattle.deny_spec_report.specs.Circumstances.{unseen_by, with_expired}
use Rattle.deny_spec_report.specs.Licences.{exception_not_encountered_keys, licence_hits, not_encountered_keys}
use Rattle.deny_spec_report.specs.Wildcards.{wildcard_keys}
use Rattle.deny_spec_report.proofs.Cases.{all_count, app, ban_at, ban_keys, bans_on_cases, entry_at, on_cases, one_x}
use Rattle.deny_spec_report.proofs.Cases.{plain}
use Rattle.deny_spec_report.proofs.Cases.{span, root_of, skip_keys, skips_on_cases, spanned_at, spec_at}
use Rattle.deny_spec_report.proofs.LicenceRows.{allowed_at, alone, every, exception_at, granting, hit_by}
use Rattle.deny_spec_report.proofs.LicenceRows.{licences_on_cases}
use Rattle.deny_spec_report.proofs.LicenceRows.{mit, unmet, unmet_exception}
use Rattle.deny_spec_report.proofs.ManifestCases.{any_version, behind, seeing, written}
use Rattle.deny_spec_report.proofs.WildcardRows.{checking, one_holds, wildcards_on_cases}
use Rattle.deny_spec_removal.specs.Dead.{unused_entry}
use Rattle.deny_spec_removal.specs.Removal.{cut_licensing, is_taken, unnaming, without, without_in}
use Rattle.deny_spec_removal.proofs.IgnoreCases.{hit_by_x, hits_by, ignore, ignores_on_cases, replaced_by, two_ignores}
use Rattle.deny_spec_removal.proofs.IgnoreCases.{unmatched_by}

abbrev wrapper : EntryId
wrapper = record { kind = Wrapper; range = span 50 }

abbrev skip : EntryId
skip = record { kind = Skip; range = span 35 }

-- ---- a waived ban of a crate without dependents: both wrappers are unused, and one can go

two_wrappers : Policy
two_wrappers = record plain {
  deny = ban_at (codes "app") (spanned_at (codes "z") 45 ∷ spanned_at (codes "y") 50 ∷ []) 27 ∷ [];
}

both_unused : ban_keys two_wrappers one_x ≡ unused_key code.UnusedWrapper (span 45)
    ∷ unused_key code.UnusedWrapper (span 50) ∷ []
unfolding bans_on_cases two_wrappers
both_unused = refl

none_hit : all_hits two_wrappers one_x all_count ≡ []
unfolding bans_on_cases two_wrappers wrapper_hit
none_hit = refl

one_left : ban_keys (without two_wrappers (wrapper ∷ [])) one_x ≡ unused_key code.UnusedWrapper (span 45) ∷ []
unfolding bans_on_cases two_wrappers is_taken entry_kind_number
one_left = refl

-- the report of the other wrapper stays
other_named : unnaming (wrapper ∷ []) (ban_keys two_wrappers one_x) ≡ unused_key code.UnusedWrapper (span 45) ∷ []
unfolding bans_on_cases two_wrappers is_taken entry_kind_number
other_named = refl

-- ---- of two skips, the one for a crate that is not in the graph is dead

two_skips : Policy
two_skips = record plain { skip = entry_at (codes "x") 20 ∷ entry_at (codes "q") 35 ∷ [] }

skips_reported : skip_keys two_skips one_x all_count ≡ crate_key code.Skipped 1 (span 20)
    ∷ unused_key code.UnmatchedSkip (span 35) ∷ unused_key code.UnnecessarySkip (span 20) ∷ []
unfolding skips_on_cases two_skips
skips_reported = refl

-- a needless skip is hit, and its report does not name it as unused
dead_skip : filter_map unused_entry (skip_keys two_skips one_x all_count) ≡ skip ∷ []
unfolding skips_on_cases two_skips unused_entry
dead_skip = refl

without_it : skip_keys (without two_skips (skip ∷ [])) one_x all_count ≡ crate_key code.Skipped 1 (span 20)
    ∷ unused_key code.UnnecessarySkip (span 20) ∷ []
unfolding skips_on_cases two_skips is_taken entry_kind_number
without_it = refl

others_reported : unnaming (skip ∷ []) (skip_keys two_skips one_x all_count) ≡ crate_key code.Skipped 1 (span 20)
    ∷ unused_key code.UnnecessarySkip (span 20) ∷ []
unfolding skips_on_cases two_skips is_taken entry_kind_number
others_reported = refl

-- ---- a wildcard is reported with and without a dead skip and a dead skipped tree

abbrev tree : EntryId
tree = record { kind = SkipRoot; range = span 40 }

unfoldable two_dead : Policy
two_dead = record checking {
  skip = entry_at (codes "q") 35 ∷ [];
  skip_tree = root_of (codes "q") 40 ∷ [];
}

abbrev wildcard : View
wildcard = seeing (written any_version 1 10 ∷ [])

wildcard_beside : wildcard_keys two_dead (behind app) all_count wildcard ≡ one_holds
unfolding wildcards_on_cases two_dead
wildcard_beside = refl

wildcard_without : wildcard_keys (without two_dead (skip ∷ tree ∷ [])) (behind app) all_count wildcard ≡ one_holds
unfolding wildcards_on_cases two_dead is_taken entry_kind_number
wildcard_without = refl

-- no finding of a manifest names an entry
not_named : unnaming (skip ∷ tree ∷ []) one_holds ≡ one_holds
unfolding wildcards_on_cases is_taken entry_kind_number
not_named = refl

-- ---- of two ignores of one replaced crate the second is dead

second_unmatched : unmatched_by two_ignores ≡ unused_key code.UnmatchedReplacementIgnore (span 39) ∷ []
unfolding ignores_on_cases
second_unmatched = refl

dead_ignore : filter_map unused_entry (unmatched_by two_ignores) ≡ ignore (span 39) ∷ []
unfolding ignores_on_cases unused_entry
dead_ignore = refl

first_hit : hits_by two_ignores ≡ hit_by_x (span 29) ∷ []
unfolding ignores_on_cases
first_hit = refl

-- without the dead ignore nothing is unmatched, the first is hit as before, and the crate is still passed over
none_unmatched : unmatched_by (without two_ignores (ignore (span 39) ∷ [])) ≡ []
unfolding ignores_on_cases is_taken entry_kind_number
none_unmatched = refl

none_reported : unnaming (ignore (span 39) ∷ []) (unmatched_by two_ignores) ≡ []
unfolding ignores_on_cases is_taken entry_kind_number
none_reported = refl

first_hit_still : hits_by (without two_ignores (ignore (span 39) ∷ [])) ≡ hit_by_x (span 29) ∷ []
unfolding ignores_on_cases is_taken entry_kind_number
first_hit_still = refl

passed_over : replaced_by (without two_ignores (ignore (span 39) ∷ [])) ≡ []
unfolding ignores_on_cases is_taken entry_kind_number
passed_over = refl

-- a skip with the same span is another entry
other_kind : unmatched_by (without two_ignores (record { kind = Skip; range = span 39 } ∷ []))
    ≡ unused_key code.UnmatchedReplacementIgnore (span 39) ∷ []
unfolding ignores_on_cases is_taken entry_kind_number
other_kind = refl

-- ---- of two equal licences the second is dead, and so is an exception for a crate that is not in the graph

abbrev allowance : ℕ → EntryId
allowance start = record { kind = LicenseAllow; range = span start }

abbrev exception : ℕ → EntryId
exception start = record { kind = LicenseException; range = span start }

unfoldable mit_twice : Licensing
mit_twice = granting (allowed_at mit 20 ∷ allowed_at mit 27 ∷ []) (exception_at (codes "q") 40 mit ∷ [])

unmet_two : (not_encountered_keys every mit_twice (alone (codes "MIT")) ≡ unmet 27 ∷ [])
    × (exception_not_encountered_keys every mit_twice (alone (codes "MIT")) ≡ unmet_exception 40 ∷ [])
unfolding licences_on_cases mit_twice
unmet_two = (refl, refl)

dead_licences : (filter_map unused_entry (unmet 27 ∷ unmet_exception 40 ∷ []) ≡ allowance 27 ∷ exception 40 ∷ [])
    × (unnaming (allowance 27 ∷ exception 40 ∷ []) (unmet 27 ∷ unmet_exception 40 ∷ []) ≡ [])
unfolding on_cases unused_entry is_taken entry_kind_number
dead_licences = (refl, refl)

-- without both dead entries nothing is unmatched, and the first licence is hit as before
unfoldable mit_once : Licensing
mit_once = cut_licensing (allowance 27 ∷ exception 40 ∷ []) mit_twice

none_unmet : (not_encountered_keys every mit_once (alone (codes "MIT")) ≡ [])
    × (exception_not_encountered_keys every mit_once (alone (codes "MIT")) ≡ [])
    × (licence_hits every mit_once (alone (codes "MIT")) ≡ hit_by (codes "x") 20 ∷ [])
    × (licence_hits every mit_twice (alone (codes "MIT")) ≡ hit_by (codes "x") 20 ∷ [])
unfolding licences_on_cases mit_twice mit_once is_taken entry_kind_number
none_unmet = (refl, refl, refl, refl)

-- an exception is another entry than a licence with its span
kinds_apart : cut_licensing (exception 27 ∷ allowance 40 ∷ []) mit_twice ≡ mit_twice
unfolding licences_on_cases mit_twice is_taken entry_kind_number
kinds_apart = refl

-- ---- a skip that expired is no entry that can go: the warning about it names none as unused, and stays

past_skip : PastWaiver
past_skip = record {
  spec = spec_at (codes "q") 35;
  expires = spanned_at (codes "2026-01-31") 40;
  reason = None;
}

expired_not_dead : filter_map unused_entry (expired_keys (past_skip ∷ [])) ≡ []
unfolding on_cases past_skip expired_key unused_entry
expired_not_dead = refl

expired_not_named : unnaming (skip ∷ []) (expired_keys (past_skip ∷ [])) ≡ expired_keys (past_skip ∷ [])
unfolding on_cases past_skip expired_key is_taken entry_kind_number
expired_not_named = refl

expired_stays : (without_in (with_expired (unseen_by two_skips one_x 3) (past_skip ∷ [])) (skip ∷ [])).expired
    ≡ past_skip ∷ []
expired_stays = refl
