-- Laws with a line for each code: what its severity depends on, where it is an error, and what its labels mark.
use Rattle.std.proofs.Common.{◌≡◌, ℕ, List, Option, refl, ◌∙◌, true, [], sym, inl, inr}
use Rattle.std.specs.Option.{option_and_then}
use Rattle.std.specs.Prelude.{codes}
use Rattle.std.proofs.lemmas.Bool.{false≢true}
use Rattle.deny_base_lists.proofs.Members.{Contains-from_flat_map}
use Rattle.deny_base.specs.declared.code.Code.{Code}
use Rattle.deny_base.specs.declared.code.Code.TheVariants as code
use Rattle.deny_base.specs.declared.code.DiagnosticCode.{DiagnosticCode}
use Rattle.deny_base.specs.declared.code.DiagnosticCode.TheVariants.{Deprecated, Bans, License, Expired}
use Rattle.deny_base.specs.declared.entry.EntryId.{EntryId}
use Rattle.deny_base.specs.declared.files.File.{File}
use Rattle.deny_base.specs.declared.key.Key.{Key}
use Rattle.deny_spec.specs.Bans.{wrapper_of}
use Rattle.deny_spec.specs.Expired.{past_waiver_at}
use Rattle.deny_spec.specs.Duplicates.{duplicate_level, is_denied_multiple}
use Rattle.deny_spec.specs.Policy.{Ban, SpannedText}
use Rattle.deny_spec.specs.DiagParts.{allow_labels, crate_at, ban_labels, entry_labels, root_labels}
use Rattle.deny_spec.specs.DiagParts.{wrapper_labels}
use Rattle.deny_spec.specs.Wrappers.{same_span}
use Rattle.deny_spec_report.specs.AllowList.{allowed_diag, not_allowed_diag}
use Rattle.deny_spec_report.specs.Bans.{allowed_by_wrapper_diag, banned_diag, unmatched_wrapper_diag}
use Rattle.deny_spec_report.specs.Circumstances.{Circumstances}
use Rattle.deny_spec_report.specs.Duplicates.{duplicate_diag}
use Rattle.deny_spec_report.specs.EachCode.{message_as, HoldsAs}
use Rattle.deny_spec_report.specs.Expired.{expired_diag}
use Rattle.deny_spec_report.specs.Facts.{Facts}
use Rattle.deny_spec_report.specs.Features.{default_enabled_diag, default_level, default_severity, feature_banned_diag}
use Rattle.deny_spec_report.specs.Features.{feature_not_allowed_diag, mismatched_diag, unknown_feature_diag}
use Rattle.deny_spec_report.specs.Features.{feature_banned_keys_of, mismatched_keys_of}
use Rattle.deny_spec_report.specs.PackageDiags.{bypassed_by_glob_diag, checksum_match_diag, checksum_mismatch_diag}
use Rattle.deny_spec_report.specs.PackageDiags.{denied_by_extension_diag, detected_diag, features_enabled_diag}
use Rattle.deny_spec_report.specs.PackageDiags.{path_bypassed_diag, script_denied_diag, script_diag}
use Rattle.deny_spec_report.specs.PackageDiags.{unable_to_check_diag}
use Rattle.deny_spec_report.specs.PackageDiags.{unmatched_bypass_diag, unmatched_glob_diag, unmatched_path_diag}
use Rattle.deny_spec_report.specs.PackageDiags.{deprecated_diag}
use Rattle.deny_spec_report.specs.Saying.{said_by}
use Rattle.deny_spec_report.specs.Sharing.{unused_entry_diag, workspace_duplicate_diag, unused_entry_keys_by}
use Rattle.deny_spec_report.specs.Sharing.{workspace_duplicate_keys_by}
use Rattle.deny_spec_report.specs.SkippedTrees.{skipped_by_root_diag, unmatched_skip_root_diag}
use Rattle.deny_spec_report.specs.Skips.{skipped_diag, unmatched_skip_diag, unnecessary_skip_diag}
use Rattle.deny_spec_report.specs.Holding.{HoldsBy}
use Rattle.deny_spec_report.specs.StdReplacements.{replaced_keys}
use Rattle.deny_spec_report.specs.Diags.{message_by, key_message}
use Rattle.deny_spec_report.specs.Wildcards.{wildcard_diag, unresolved_diag}
use Rattle.deny_spec_report.specs.Wrappers.{unused_wrapper_diag}
use Rattle.deny_spec_removal.specs.Removal.{without_in}
use Rattle.deny_gate.specs.Labels.{ArePlaced}
use Rattle.deny_gate.specs.private.Labels.{licence_spans, past_spans}
use Rattle.deny_gate.specs.Report.{is_error}
use Rattle.deny_gate.proofs.BuildEntries.{entry_known, older_known}
use Rattle.deny_gate.proofs.ExpiredLabels.{of_expired}
use Rattle.deny_gate.proofs.Found.{of_found}
use Rattle.deny_gate.proofs.LabelLaws.{AreSpans, LabelsOf, all_placed, at_build_entry, at_entry, built}
use Rattle.deny_gate.proofs.LabelLaws.{by_extension_placed, by_glob_placed, features_placed, in_policy, list_labelled}
use Rattle.deny_gate.proofs.LabelLaws.{mismatch_labelled, mismatch_placed}
use Rattle.deny_gate.proofs.LabelLaws.{none, of_allowed, of_ban_entry, of_default, of_duplicate, script_placed}
use Rattle.deny_gate.proofs.LabelLaws.{of_feature_banned, of_licence, of_replaced, of_root}
use Rattle.deny_gate.proofs.LabelLaws.{of_skip, of_unknown_feature, of_unmatched_ignore, of_unmatched_root}
use Rattle.deny_gate.proofs.LabelLaws.{of_unused_wrapper, of_wrapper, wrapper_in}
use Rattle.deny_gate.proofs.ManifestLabels.{duplicate_placed, no_labels, unresolved_placed, unused_placed}
use Rattle.deny_gate.proofs.ManifestLabels.{wildcard_placed}
use Rattle.deny_gate.proofs.ActiveRules.{IsGrave, default_active, grave_licensed, ignore_is_mild, mild_features}
use Rattle.deny_gate.proofs.ActiveRules.{mild_glob, active_by, no_build_error, no_expired_error, some_are}
use Rattle.deny_gate.proofs.ActiveRules.{wildcard_error}
use Rattle.deny_gate.proofs.BuildErrors.{denied_active, files_active, mismatch_active}
use Rattle.deny_gate.proofs.Severities.{MismatchAlike, built_alike, ignore_alike, licensed_alike, replaced_alike}

-- ---- the severity of a finding depends on levels, and on no entry that can go

as_alike : (d : Code) (c : Circumstances) (taken : List EntryId) (key : Key) → key.code ≡ Bans d
    → MismatchAlike c taken key
    → (message_as d (without_in c taken) key).severity ≡ (message_as d c key).severity
unfolding message_as banned_diag allowed_diag duplicate_diag duplicate_level is_denied_multiple skipped_diag
    unmatched_skip_diag unnecessary_skip_diag allowed_by_wrapper_diag unmatched_wrapper_diag skipped_by_root_diag
    mismatched_diag feature_not_allowed_diag feature_banned_diag unknown_feature_diag default_enabled_diag
    default_severity default_level wildcard_diag workspace_duplicate_diag unused_entry_diag bypassed_by_glob_diag
    checksum_mismatch_diag denied_by_extension_diag detected_diag features_enabled_diag script_denied_diag
    path_bypassed_diag checksum_match_diag unable_to_check_diag unmatched_bypass_diag unmatched_path_diag
    unmatched_glob_diag
as_alike code.Banned c taken key coded sums = refl
as_alike code.Allowed c taken key coded sums = refl
as_alike code.NotAllowed c taken key coded sums = refl
as_alike code.Duplicate c taken key coded sums = refl
as_alike code.Skipped c taken key coded sums = refl
as_alike code.Wildcard c taken key coded sums = refl
as_alike code.UnmatchedSkip c taken key coded sums = refl
as_alike code.UnnecessarySkip c taken key coded sums = refl
as_alike code.AllowedByWrapper c taken key coded sums = refl
as_alike code.UnmatchedWrapper c taken key coded sums = refl
as_alike code.SkippedByRoot c taken key coded sums = refl
as_alike code.UnmatchedSkipRoot c taken key coded sums = refl
as_alike code.BuildScriptNotAllowed c taken key coded sums = refl
as_alike code.ExactFeaturesMismatch c taken key coded sums = refl
as_alike code.FeatureNotExplicitlyAllowed c taken key coded sums = refl
as_alike code.FeatureBanned c taken key coded sums = refl
as_alike code.UnknownFeature c taken key coded sums = refl
as_alike code.DefaultFeatureEnabled c taken key coded sums = refl
as_alike code.PathBypassed c taken key coded sums = refl
as_alike code.PathBypassedByGlob c taken key coded sums = built_alike taken (λ b. bypassed_by_glob_diag b c key)
    (λ b. bypassed_by_glob_diag b (without_in c taken) key) c.building (λ b said. refl)
as_alike code.ChecksumMatch c taken key coded sums = refl
as_alike code.ChecksumMismatch c taken key coded sums = built_alike taken (λ b. checksum_mismatch_diag b c key)
    (λ b. checksum_mismatch_diag b (without_in c taken) key) c.building (λ b said. sums coded b said)
as_alike code.DeniedByExtension c taken key coded sums = built_alike taken (λ b. denied_by_extension_diag b c key)
    (λ b. denied_by_extension_diag b (without_in c taken) key) c.building (λ b said. refl)
as_alike code.DetectedExecutable c taken key coded sums = refl
as_alike code.DetectedExecutableScript c taken key coded sums = built_alike taken (λ b. script_diag b c key)
    (λ b. script_diag b (without_in c taken) key) c.building (λ b said. refl)
as_alike code.UnableToCheckPath c taken key coded sums = refl
as_alike code.FeaturesEnabled c taken key coded sums = built_alike taken (λ b. features_enabled_diag b c key)
    (λ b. features_enabled_diag b (without_in c taken) key) c.building (λ b said. refl)
as_alike code.UnmatchedBypass c taken key coded sums = refl
as_alike code.UnmatchedPathBypass c taken key coded sums = refl
as_alike code.UnmatchedGlob c taken key coded sums = refl
as_alike code.UnusedWrapper c taken key coded sums = refl
as_alike code.WorkspaceDuplicate c taken key coded sums = refl
as_alike code.UnresolvedWorkspaceDependency c taken key coded sums = refl
as_alike code.UnusedWorkspaceDependency c taken key coded sums = refl
as_alike code.ReplacedInStd c taken key coded sums =
    replaced_alike taken c.policy.replacing c.graph (said_by c.table) key
as_alike code.UnmatchedReplacementIgnore c taken key coded sums =
    ignore_alike taken c.policy.replacing c.files.policy key

by_alike : (d : DiagnosticCode) (c : Circumstances) (taken : List EntryId) (key : Key) → key.code ≡ d
    → MismatchAlike c taken key
    → (message_by d (without_in c taken) key).severity ≡ (message_by d c key).severity
by_alike Deprecated c taken key coded sums = refl
by_alike (Bans d) c taken key coded sums = as_alike d c taken key coded sums
by_alike (License d) c taken key coded sums = licensed_alike d taken c.licensing c.graph c.files.policy key
by_alike Expired c taken key coded sums = refl

pub severity_alike : (c : Circumstances) (taken : List EntryId) (key : Key) → MismatchAlike c taken key
    → (key_message (without_in c taken) key).severity ≡ (key_message c key).severity
severity_alike c taken key sums = by_alike key.code c taken key refl sums

-- ---- an error is one of the crate rules, or of another active rule

grave_code : (d : Code) (c : Circumstances) (facts : Facts) (k : Key) → k.code ≡ Bans d → HoldsAs d c facts k
    → is_error (message_as d c k).severity ≡ true → IsGrave c.policy c.licensing c.building (Bans d)
unfolding message_as allowed_diag skipped_diag unmatched_skip_diag unnecessary_skip_diag allowed_by_wrapper_diag
    unmatched_wrapper_diag skipped_by_root_diag unmatched_skip_root_diag unused_wrapper_diag unknown_feature_diag
    default_enabled_diag wildcard_diag unresolved_diag path_bypassed_diag checksum_match_diag unmatched_bypass_diag
    unmatched_path_diag unmatched_glob_diag
grave_code code.Banned c facts k coded is error = inl refl
grave_code code.NotAllowed c facts k coded is error = inl refl
grave_code code.Duplicate c facts k coded is error = inl refl
grave_code code.ExactFeaturesMismatch c facts k coded is error =
    let of = Contains-from_flat_map (mismatched_keys_of c.policy c.graph) c.policy.features k is in
    inr (some_are c.policy.features of.from of.member)
grave_code code.FeatureNotExplicitlyAllowed c facts k coded is error =
    inr (some_are c.policy.features is.entry is.written)
grave_code code.FeatureBanned c facts k coded is error =
    let of = Contains-from_flat_map (feature_banned_keys_of c.graph) c.policy.features k is in
    inr (some_are c.policy.features of.from of.member)
grave_code code.DefaultFeatureEnabled c facts k coded is error =
    inr (default_active c.policy c.graph k error)
grave_code code.Wildcard c facts k coded is error =
    inr (wildcard_error c.policy.wildcards error)
grave_code code.UnresolvedWorkspaceDependency c facts k coded is error = absurd (false≢true error)
grave_code code.WorkspaceDuplicate c facts k coded is error =
    inr (active_by c.policy.sharing (workspace_duplicate_keys_by c.graph c.view) k is)
grave_code code.UnusedWorkspaceDependency c facts k coded is error =
    inr (active_by c.policy.sharing (unused_entry_keys_by c.view) k is)
grave_code code.ReplacedInStd c facts k coded is error =
    inr (active_by c.policy.replacing (λ r. replaced_keys r c.graph (said_by c.table)) k is)
grave_code code.Allowed c facts k coded is error = absurd (false≢true error)
grave_code code.Skipped c facts k coded is error = absurd (false≢true error)
grave_code code.UnmatchedSkip c facts k coded is error = absurd (false≢true error)
grave_code code.UnnecessarySkip c facts k coded is error = absurd (false≢true error)
grave_code code.AllowedByWrapper c facts k coded is error = absurd (false≢true error)
grave_code code.UnmatchedWrapper c facts k coded is error = absurd (false≢true error)
grave_code code.SkippedByRoot c facts k coded is error = absurd (false≢true error)
grave_code code.UnmatchedSkipRoot c facts k coded is error = absurd (false≢true error)
grave_code code.UnknownFeature c facts k coded is error = absurd (false≢true error)
grave_code code.UnusedWrapper c facts k coded is error = absurd (false≢true error)
grave_code code.UnmatchedReplacementIgnore c facts k coded is error =
    absurd (false≢true (sym (ignore_is_mild c.policy.replacing c.files.policy k) ∙ error))
grave_code code.BuildScriptNotAllowed c facts k coded is error =
    inr (denied_active c facts k is coded)
grave_code code.ChecksumMismatch c facts k coded is error =
    inr (mismatch_active c facts k is coded error)
grave_code code.DeniedByExtension c facts k coded is error =
    inr (files_active c facts k is code.DeniedByExtension coded refl)
grave_code code.DetectedExecutable c facts k coded is error =
    inr (files_active c facts k is code.DetectedExecutable coded refl)
grave_code code.DetectedExecutableScript c facts k coded is error =
    inr (files_active c facts k is code.DetectedExecutableScript coded refl)
grave_code code.UnableToCheckPath c facts k coded is error =
    inr (files_active c facts k is code.UnableToCheckPath coded refl)
grave_code code.PathBypassed c facts k coded is error = absurd (false≢true error)
grave_code code.PathBypassedByGlob c facts k coded is error =
    absurd (no_build_error (λ b. bypassed_by_glob_diag b c k) c.building (λ b. mild_glob b c k) error)
grave_code code.ChecksumMatch c facts k coded is error = absurd (false≢true error)
grave_code code.FeaturesEnabled c facts k coded is error =
    absurd (no_build_error (λ b. features_enabled_diag b c k) c.building (λ b. mild_features b c k) error)
grave_code code.UnmatchedBypass c facts k coded is error = absurd (false≢true error)
grave_code code.UnmatchedPathBypass c facts k coded is error = absurd (false≢true error)
grave_code code.UnmatchedGlob c facts k coded is error = absurd (false≢true error)

pub grave : (d : DiagnosticCode) (c : Circumstances) (facts : Facts) (k : Key) → k.code ≡ d → HoldsBy d c facts k
    → is_error (message_by d c k).severity ≡ true → IsGrave c.policy c.licensing c.building d
unfolding deprecated_diag expired_diag
grave Deprecated c facts k coded is error = absurd (false≢true error)
grave (Bans d) c facts k coded is error = grave_code d c facts k coded is error
grave (License d) c facts k coded is error = inr
    (grave_licensed d c.policy c.licensing c.building c.graph c.files.policy k is error)
grave Expired c facts k coded is error =
    absurd (no_expired_error c.files.policy (past_waiver_at c.expired k.entry) error)

-- ---- the labels of a finding mark spans

module _ (c : Circumstances) (facts : Facts) (text : List ℕ) (files : List File) (are : AreSpans c text files) where
  of_code : (d : Code) (key : Key) → key.code ≡ Bans d → HoldsAs d c facts key
      → ArePlaced files (message_as d c key).labels
  unfolding message_as banned_diag allowed_diag not_allowed_diag skipped_diag unmatched_skip_diag
      unnecessary_skip_diag allowed_by_wrapper_diag unmatched_wrapper_diag skipped_by_root_diag unmatched_skip_root_diag
      unused_wrapper_diag mismatched_diag feature_not_allowed_diag feature_banned_diag unknown_feature_diag
      default_enabled_diag script_denied_diag path_bypassed_diag checksum_match_diag detected_diag unable_to_check_diag
      unmatched_bypass_diag unmatched_path_diag unmatched_glob_diag
  of_code code.Banned key coded is = in_policy are _ (of_found (LabelsOf c)
      (ban_labels c.files.policy (codes "banned here"))
      (λ ban. same_span ban.spec.span key.entry) c.policy.deny (none c.policy c.files.policy)
      (λ ban written. of_ban_entry c.policy c.files.policy (codes "banned here") ban written))
  of_code code.Allowed key coded is =
      in_policy are _ (of_found (LabelsOf c) (allow_labels c.files.policy (codes "allowed here"))
      (λ e. same_span e.spec.span key.entry) c.policy.allow (none c.policy c.files.policy)
      (λ e written. of_allowed c.policy c.files.policy (codes "allowed here") e written))
  of_code code.NotAllowed key coded is = no_labels files
  of_code code.Duplicate key coded is = of_duplicate are facts key is
  of_code code.Skipped key coded is =
      in_policy are _ (of_found (LabelsOf c) (entry_labels c.files.policy (codes "skipped here"))
      (λ e. same_span e.spec.span key.entry) c.policy.skip (none c.policy c.files.policy)
      (λ e written. of_skip c.policy c.files.policy (codes "skipped here") e written))
  of_code code.UnmatchedSkip key coded is = in_policy are _ (of_found (LabelsOf c)
      (entry_labels c.files.policy (codes "unmatched skip configuration"))
      (λ e. same_span e.spec.span key.entry) c.policy.skip (none c.policy c.files.policy)
      (λ e written. of_skip c.policy c.files.policy (codes "unmatched skip configuration") e written))
  of_code code.UnnecessarySkip key coded is = in_policy are _ (of_found (LabelsOf c)
      (entry_labels c.files.policy (codes "unnecessary skip configuration"))
      (λ e. same_span e.spec.span key.entry) c.policy.skip (none c.policy c.files.policy)
      (λ e written. of_skip c.policy c.files.policy (codes "unnecessary skip configuration") e written))
  of_code code.AllowedByWrapper key coded is = in_policy are _ (
      let by : Ban → Option SpannedText = λ ban. option_and_then (wrapper_of ban.wrappers)
      (crate_at c.graph key.other) in
      of_found (LabelsOf c) (λ ban. wrapper_labels c.files.policy ban (by ban))
      (λ ban. same_span ban.spec.span key.entry) c.policy.deny (none c.policy c.files.policy)
      (λ ban written. of_wrapper c.policy c.files.policy ban (by ban) written
      (wrapper_in c.policy c.files.policy ban (crate_at c.graph key.other))))
  of_code code.UnmatchedWrapper key coded is = in_policy are _ (
      of_found (LabelsOf c) (ban_labels c.files.policy (codes "banned here"))
      (λ ban. same_span ban.spec.span key.entry) c.policy.deny (none c.policy c.files.policy)
      (λ ban written. of_ban_entry c.policy c.files.policy (codes "banned here") ban written))
  of_code code.SkippedByRoot key coded is = in_policy are _ (
      of_found (LabelsOf c) (root_labels c.files.policy (codes "matched skip root"))
      (λ t. same_span t.spec.span key.entry) c.policy.skip_tree (none c.policy c.files.policy)
      (λ t written. of_root c.policy c.files.policy (codes "matched skip root") t written))
  of_code code.UnmatchedSkipRoot key coded is =
      at_entry are key (codes "no crate matched these criteria")
      (of_unmatched_root c.policy c.files.policy c.graph key is)
  of_code code.UnusedWrapper key coded is =
      at_entry are key (codes "unmatched wrapper") (of_unused_wrapper c.policy c.files.policy c.graph key is)
  of_code code.ExactFeaturesMismatch key coded is = mismatch_labelled are key is
  of_code code.FeatureNotExplicitlyAllowed key coded is = list_labelled are key is
  of_code code.FeatureBanned key coded is =
      at_entry are key (codes "feature denied here") (of_feature_banned c.policy c.files.policy c.graph key is)
  of_code code.UnknownFeature key coded (inl is) =
      at_entry are key (codes "unknown feature") (of_unknown_feature c.policy c.files.policy c.graph key is)
  of_code code.UnknownFeature key coded (inr is) =
      at_build_entry are key (codes "unknown feature") (entry_known c facts code.UnknownFeature key is coded refl)
  of_code code.DefaultFeatureEnabled key coded is =
      at_entry are key (codes "lint level") (of_default c.policy c.files.policy c.graph key is)
  of_code code.ReplacedInStd key coded is = in_policy are _ (
      of_replaced c.policy c.files.policy c.policy.replacing c.graph (said_by c.table) key)
  of_code code.UnmatchedReplacementIgnore key coded is = in_policy are _ (
      of_unmatched_ignore c.policy c.files.policy c.policy.replacing key refl)
  of_code code.Wildcard key coded is = wildcard_placed files c.view are.first_number are.past are.of_manifests c.policy c.graph key
  of_code code.UnresolvedWorkspaceDependency key coded is = unresolved_placed files c.view are.first_number are.past are.of_manifests c.graph key
  of_code code.WorkspaceDuplicate key coded is = duplicate_placed files c.view are.first_number are.past are.of_manifests c.policy c.graph key
  of_code code.UnusedWorkspaceDependency key coded is = unused_placed files c.view are.first_number are.past are.of_manifests c.policy key
  of_code code.BuildScriptNotAllowed key coded is = no_labels files
  of_code code.PathBypassed key coded is =
      at_build_entry are key (codes "allowed path") (entry_known c facts code.PathBypassed key is coded refl)
  of_code code.PathBypassedByGlob key coded is =
      built are (λ b. bypassed_by_glob_diag b c key) c.building refl (λ b said. by_glob_placed are b said key)
  of_code code.ChecksumMatch key coded is =
      at_build_entry are key (codes "checksum") (entry_known c facts code.ChecksumMatch key is coded refl)
  of_code code.ChecksumMismatch key coded is =
      built are (λ b. checksum_mismatch_diag b c key) c.building refl
      (λ b said. mismatch_placed are b said key (entry_known c facts code.ChecksumMismatch key is coded refl))
  of_code code.DeniedByExtension key coded is =
      built are (λ b. denied_by_extension_diag b c key) c.building refl (λ b said. by_extension_placed are b said key)
  of_code code.DetectedExecutable key coded is = no_labels files
  of_code code.DetectedExecutableScript key coded is =
      built are (λ b. script_diag b c key) c.building refl (λ b said. script_placed are b said key)
  of_code code.UnableToCheckPath key coded is = no_labels files
  of_code code.FeaturesEnabled key coded is =
      built are (λ b. features_enabled_diag b c key) c.building refl (λ b said. features_placed are b said key)
  of_code code.UnmatchedBypass key coded is =
      at_build_entry are key (codes "unmatched bypass") (entry_known c facts code.UnmatchedBypass key is coded refl)
  of_code code.UnmatchedPathBypass key coded is =
      at_build_entry are key [] (entry_known c facts code.UnmatchedPathBypass key is coded refl)
  of_code code.UnmatchedGlob key coded is =
      at_build_entry are key [] (entry_known c facts code.UnmatchedGlob key is coded refl)

  pub labels_of_key : (d : DiagnosticCode) (key : Key) → key.code ≡ d → HoldsBy d c facts key
      → ArePlaced files (message_by d c key).labels
  unfolding deprecated_diag
  labels_of_key Deprecated key coded is = at_build_entry are key [] (older_known c key is)
  labels_of_key (Bans d) key coded is = of_code d key coded is
  labels_of_key (License d) key coded is =
      all_placed files (licence_spans c.licensing) text c.files.policy (message_by (License d) c key).labels
      are.policy_there are.first are.of_licences (of_licence d c.licensing c.graph c.files.policy key is)
  labels_of_key Expired key coded is =
      all_placed files (past_spans c.expired) text c.files.policy (message_by Expired c key).labels
      are.policy_there are.first are.of_expired (of_expired c.files.policy c.expired key)
