-- Worked cases of spans that are replaced; and why different spans of two wrappers of one ban must stay different, and
-- those of two ignores, two licences and two exceptions.
use Rattle.std.proofs.Common.{◌≡◌, ◌+◌, ℕ, [], ◌∷◌, Some, codes, map, refl, true}
use Rattle.deny_base.specs.declared.code.Code.TheVariants as code
use Rattle.deny_base.specs.declared.level.LintLevel.TheVariants.{Warn}
use Rattle.deny_spec.specs.Expired.{PastWaiver, expired_key, expired_keys}
use Rattle.deny_spec.specs.Keys.{crate_key, dependent_key, key_of, no_span, unused_key}
use Rattle.deny_spec.specs.Licensing.{Licensing}
use Rattle.deny_spec.specs.Match.{matches}
use Rattle.deny_spec.specs.Policy.{AllowEntry, Ban, Entry, FeatureEntry, Policy, Root}
use Rattle.deny_spec_report.specs.Circumstances.{unseen_by, with_expired}
use Rattle.deny_spec_report.specs.Features.{is_enabled, is_mismatch_reported, is_mismatched, mismatched_keys}
use Rattle.deny_spec_report.specs.Features.{mismatched_keys_of}
use Rattle.deny_spec_report.specs.Features.{missing, unlisted}
use Rattle.deny_spec_report.specs.Licences.{exception_not_encountered_keys, licence_hits, not_encountered_keys}
use Rattle.deny_spec_report.specs.Wildcards.{unresolved_keys}
use Rattle.deny_spec_report.proofs.Cases.{all_count, allow_at, app, ban_at, ban_keys, bans_on_cases, by_two, on_cases}
use Rattle.deny_spec_report.proofs.Cases.{entry_at, one_x, plain, root_of, span, spec_at, spanned_at}
use Rattle.deny_spec_report.proofs.LicenceRows.{allowed_at, alone, every, exception_at, excepted_by, gpl, granting}
use Rattle.deny_spec_report.proofs.LicenceRows.{hit_by}
use Rattle.deny_spec_report.proofs.LicenceRows.{licences_on_cases, mit, unmet, unmet_exception}
use Rattle.deny_spec_report.proofs.ManifestCases.{any_version, behind, seeing, sharing_it, written}
use Rattle.deny_spec_report.proofs.SharingRows.{sharing_on_cases, unused_at}
use Rattle.deny_spec_report.proofs.WildcardRows.{checking, wildcards_on_cases}
use Rattle.deny_spec_removal.specs.Renaming.{Renaming, renamed, renamed_in, renamed_key, renamed_licensing}
use Rattle.deny_spec_removal.proofs.IgnoreCases.{hit_by_x, hits_by, ignores_on_cases, two_ignores, unmatched_by}

unfoldable pub farther : Renaming
farther = record { span = λ a. record { start = a.start + 100; end = a.end + 100 }; number = λ n. n }

unfoldable pub all_at_once : Renaming
all_at_once = record { span = λ a. span 7; number = λ n. n }

x_by_app_app : Policy
x_by_app_app = record plain {
  deny = ban_at (codes "x") (spanned_at (codes "app") 30 ∷ spanned_at (codes "app") 50 ∷ []) 16 ∷ [];
}

before : ban_keys x_by_app_app one_x
    ≡ dependent_key code.AllowedByWrapper 1 (span 16) 0 ∷ unused_key code.UnusedWrapper (span 50) ∷ []
unfolding bans_on_cases x_by_app_app
before = refl

afterwards : ban_keys (renamed farther x_by_app_app) one_x
    ≡ dependent_key code.AllowedByWrapper 1 (span 116) 0 ∷ unused_key code.UnusedWrapper (span 150) ∷ []
unfolding bans_on_cases x_by_app_app farther
afterwards = refl

-- where two wrappers get one span, the second is hit with the first
not_apart : ban_keys (renamed all_at_once x_by_app_app) one_x ≡ dependent_key code.AllowedByWrapper 1 (span 7) 0 ∷ []
unfolding bans_on_cases x_by_app_app all_at_once
not_apart = refl

-- a finding that shows no entry keeps the empty span
no_entry : map (renamed_key farther) (ban_keys (record plain { allow = allow_at (codes "x") 18 ∷ [] }) by_two)
    ≡ crate_key code.Allowed 1 (span 118) ∷ crate_key code.NotAllowed 0 no_span ∷ crate_key code.NotAllowed 2 no_span
    ∷ []
unfolding bans_on_cases farther
no_entry = refl

-- a finding that shows a span of a manifest keeps it
unresolved_stays : unresolved_keys (renamed farther checking) (behind app) all_count
    (seeing (sharing_it (written any_version 1 10) ∷ []))
    ≡ crate_key code.UnresolvedWorkspaceDependency 0 (span 10) ∷ []
unfolding wildcards_on_cases farther
unresolved_stays = refl

span_of_a_manifest : map (renamed_key farther) (crate_key code.UnresolvedWorkspaceDependency 0 (span 10) ∷ [])
    ≡ crate_key code.UnresolvedWorkspaceDependency 0 (span 10) ∷ []
unfolding wildcards_on_cases farther
span_of_a_manifest = refl

span_of_an_entry : map (renamed_key farther) (unused_at 60 ∷ []) ≡ unused_at 60 ∷ []
unfolding sharing_on_cases unused_at farther
span_of_an_entry = refl

-- ---- ignores

second_unmatched : unmatched_by (renamed farther two_ignores)
    ≡ unused_key code.UnmatchedReplacementIgnore (span 139) ∷ []
unfolding ignores_on_cases farther
second_unmatched = refl

first_hit : hits_by (renamed farther two_ignores) ≡ hit_by_x (span 129) ∷ []
unfolding ignores_on_cases farther
first_hit = refl

-- where two entries get one span, the second is hit with the first
ignores_not_apart : hits_by (renamed all_at_once two_ignores) ≡ hit_by_x (span 7) ∷ hit_by_x (span 7) ∷ []
unfolding ignores_on_cases all_at_once
ignores_not_apart = refl

-- ---- bans, allowances, skips and trees: an entry, its reason and what to use instead have a span each

unfoldable moved_on : Renaming
moved_on = record farther { number = λ n. n + 7 }

ban_with : ℕ → Ban
ban_with start = record (ban_at (codes "x") (spanned_at (codes "w") (start + 1) ∷ []) start) {
  reason = Some (spanned_at (codes "old") (start + 2));
  use_instead = Some (spanned_at (codes "y") (start + 3));
}

allowance_with : ℕ → AllowEntry
allowance_with start = record (allow_at (codes "x") start) { reason = Some (spanned_at (codes "new") (start + 2)) }

skip_with : ℕ → Entry
skip_with start = record (entry_at (codes "x") start) { reason = Some (spanned_at (codes "late") (start + 2)) }

root_with : ℕ → ℕ → Root
root_with number start = record (root_of (codes "x") start) {
  number = number;
  depth = Some 3;
  reason = Some (spanned_at (codes "big") (start + 2));
}

unfoldable with_reasons : ℕ → Policy
with_reasons start = record plain {
  deny = ban_with start ∷ ban_at (codes "z") [] (start + 10) ∷ [];
  deny_multiple = spec_at (codes "x") start ∷ [];
  allow = allowance_with start ∷ allow_at (codes "z") (start + 10) ∷ [];
  skip = skip_with start ∷ entry_at (codes "z") (start + 10) ∷ [];
}

reasons_farther : renamed farther (with_reasons 20) ≡ with_reasons 120
unfolding on_cases ban_with allowance_with skip_with with_reasons farther
reasons_farther = refl

-- a tree gets a new number besides, and keeps its depth
trees_farther : (renamed moved_on (record plain { skip_tree = root_with 1 20 ∷ root_of (codes "z") 30 ∷ [] })).skip_tree
    ≡ root_with 8 120 ∷ record (root_of (codes "z") 130) { number = 7 } ∷ []
unfolding on_cases root_with farther moved_on
trees_farther = refl

-- ---- features: the lists, their texts and the flag whether they are exact have spans of their own

feature_at : ℕ → FeatureEntry
feature_at start = record {
  spec = spec_at (codes "x") start;
  allow = record { value = spanned_at (codes "a") (start + 2) ∷ []; span = span (start + 1) };
  deny = spanned_at (codes "d") (start + 3) ∷ [];
  exact = record { value = true; span = span (start + 4) };
}

features_farther : (renamed farther (record plain { features = feature_at 20 ∷ [] })).features
    ≡ feature_at 120 ∷ []
unfolding on_cases feature_at farther
features_farther = refl

levels_farther : (renamed farther (record plain {
  workspace_default = Some (record { value = Warn; span = span 20 });
})).workspace_default ≡ Some (record { value = Warn; span = span 120 })
unfolding on_cases farther
levels_farther = refl

-- `x` lacks a feature that its entry requires: the finding is at the entry's new span
mismatched_farther : mismatched_keys (renamed farther (record plain { features = feature_at 20 ∷ [] })) one_x
    ≡ crate_key code.ExactFeaturesMismatch 1 (span 120) ∷ []
unfolding on_cases feature_at farther mismatched_keys_of is_mismatch_reported is_mismatched unlisted missing is_enabled
    matches key_of
mismatched_farther = refl

-- ---- licences and exceptions

unfoldable mit_twice : Licensing
mit_twice = granting (allowed_at mit 20 ∷ allowed_at mit 27 ∷ [])
    (exception_at (codes "x") 40 gpl ∷ exception_at (codes "x") 50 gpl ∷ [])

licences_farther : (not_encountered_keys every (renamed_licensing farther mit_twice) (alone (codes "MIT OR GPL-2.0"))
    ≡ unmet 127 ∷ [])
    × (exception_not_encountered_keys every (renamed_licensing farther mit_twice) (alone (codes "MIT OR GPL-2.0"))
    ≡ unmet_exception 150 ∷ [])
    × (licence_hits every (renamed_licensing farther mit_twice) (alone (codes "MIT OR GPL-2.0"))
    ≡ hit_by (codes "x") 120 ∷ excepted_by (codes "x") 140 ∷ [])
unfolding licences_on_cases mit_twice farther
licences_farther = (refl, refl, refl)

-- an exception's own licences have new spans too
excepted_farther : (renamed_licensing farther mit_twice).exceptions
    ≡ exception_at (codes "x") 140 gpl ∷ exception_at (codes "x") 150 gpl ∷ []
unfolding licences_on_cases mit_twice farther
excepted_farther = refl

-- where two entries get one span, the second is hit with the first
licences_not_apart : licence_hits every (renamed_licensing all_at_once mit_twice) (alone (codes "MIT OR GPL-2.0"))
    ≡ hit_by (codes "x") 7 ∷ hit_by (codes "x") 7 ∷ excepted_by (codes "x") 7 ∷ excepted_by (codes "x") 7 ∷ []
unfolding licences_on_cases mit_twice all_at_once
licences_not_apart = refl

-- ---- expired waivers: an entry, its day and its reason have a span each

waiver_with : ℕ → PastWaiver
waiver_with start = record {
  spec = spec_at (codes "x") start;
  expires = spanned_at (codes "2026-01-31") (start + 1);
  reason = Some (spanned_at (codes "late") (start + 2));
}

waivers_farther : (renamed_in farther
    (with_expired (unseen_by plain one_x 3) (waiver_with 20 ∷ waiver_with 30 ∷ []))).expired
    ≡ waiver_with 120 ∷ waiver_with 130 ∷ []
unfolding on_cases waiver_with farther
waivers_farther = refl

-- the warning about one shows its entry
waiver_keys_farther : map (renamed_key farther) (expired_keys (waiver_with 20 ∷ []))
    ≡ expired_keys (waiver_with 120 ∷ [])
unfolding on_cases waiver_with farther expired_key
waiver_keys_farther = refl
