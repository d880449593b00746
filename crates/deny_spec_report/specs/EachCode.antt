-- When a key of each code holds, and its message, a line for each code.
use Rattle.std.specs.Prelude.{◌⊎◌, ℕ, Contains, Option}
use Rattle.deny_base.specs.declared.code.Code.{Code}
use Rattle.deny_base.specs.declared.code.Code.TheVariants as code
use Rattle.deny_base.specs.declared.key.Key.{Key}
use Rattle.deny_base.specs.declared.level.Severity.TheVariants as severity
use Rattle.deny_base.specs.declared.license_code.LicenseCode.{LicenseCode}
use Rattle.deny_base.specs.declared.license_code.LicenseCode.TheVariants as license
use Rattle.deny_spec.specs.Bans.{not_allowed_keys}
use Rattle.deny_spec.specs.Duplicates.{IsDuplicate}
use Rattle.deny_spec.specs.Graph.{Graph}
use Rattle.deny_spec.specs.Licensing.{Licensing}
use Rattle.deny_spec.specs.Skips.{unmatched_skip_root_keys, unmatched_skip_keys, unnecessary_skip_keys}
use Rattle.deny_spec_report.specs.AllowList.{allowed_keys, allowed_diag, not_allowed_diag}
use Rattle.deny_spec_report.specs.Bans.{banned_keys, allowed_by_wrapper_keys, unmatched_wrapper_keys, banned_diag}
use Rattle.deny_spec_report.specs.Bans.{allowed_by_wrapper_diag, unmatched_wrapper_diag}
use Rattle.deny_spec_report.specs.Circumstances.{Circumstances}
use Rattle.deny_spec_report.specs.Duplicates.{duplicate_diag}
use Rattle.deny_spec_report.specs.Facts.{Facts}
use Rattle.deny_spec_report.specs.Features.{IsFeatureNotAllowed, default_enabled_keys, feature_banned_keys}
use Rattle.deny_spec_report.specs.Features.{mismatched_keys}
use Rattle.deny_spec_report.specs.Features.{unknown_feature_keys, default_enabled_diag, feature_banned_diag}
use Rattle.deny_spec_report.specs.Features.{feature_not_allowed_diag, mismatched_diag, unknown_feature_diag}
use Rattle.deny_spec_report.specs.Licences.{IsOfLicences, accepted_keys, exception_not_encountered_keys}
use Rattle.deny_spec_report.specs.Licences.{not_encountered_keys}
use Rattle.deny_spec_report.specs.Licences.{parse_error_keys, rejected_keys, skipped_private_keys, unlicensed_keys}
use Rattle.deny_spec_report.specs.Licences.{accepted_diag, exception_not_encountered_diag, not_encountered_diag_in}
use Rattle.deny_spec_report.specs.Licences.{parse_error_diag, rejected_diag_in, skipped_private_diag, unlicensed_diag}
use Rattle.deny_spec_report.specs.Packages.{build_keys_in}
use Rattle.deny_spec_report.specs.PackageDiags.{bypassed_by_glob_diag, checksum_match_diag, checksum_mismatch_diag}
use Rattle.deny_spec_report.specs.PackageDiags.{denied_by_extension_diag, detected_diag, features_enabled_diag}
use Rattle.deny_spec_report.specs.PackageDiags.{path_bypassed_diag, required_features, script_denied_diag, script_diag}
use Rattle.deny_spec_report.specs.PackageDiags.{build_diag, unable_to_check_diag, unmatched_bypass_diag}
use Rattle.deny_spec_report.specs.PackageDiags.{unmatched_glob_diag, unmatched_path_diag}
use Rattle.deny_spec_report.specs.Sharing.{unused_entry_keys, workspace_duplicate_keys, unused_entry_diag}
use Rattle.deny_spec_report.specs.Sharing.{workspace_duplicate_diag}
use Rattle.deny_spec_report.specs.SkippedTrees.{skipped_by_root_keys, skipped_by_root_diag, unmatched_skip_root_diag}
use Rattle.deny_spec_report.specs.Skips.{skipped_keys, skipped_diag, unmatched_skip_diag, unnecessary_skip_diag}
use Rattle.deny_spec_report.specs.StdReplacements.{replaced_keys_in, unmatched_ignore_keys_in, replaced_diag_in}
use Rattle.deny_spec_report.specs.StdReplacements.{unmatched_ignore_diag_in}
use Rattle.deny_spec_report.specs.Wildcards.{unresolved_keys, wildcard_keys, unresolved_diag, wildcard_diag}
use Rattle.deny_spec_report.specs.Wrappers.{unused_wrapper_keys, unused_wrapper_diag}
use Rattle.deny_spec_report.specs.declared.message.Message.{Message}

-- when a key of a code of the bans check holds
abbrev pub HoldsAs : Code → Circumstances → Facts → Key → Type 0
HoldsAs code.Banned c facts key = Contains (banned_keys c.policy c.graph) key
HoldsAs code.Allowed c facts key = Contains (allowed_keys c.policy c.graph) key
HoldsAs code.NotAllowed c facts key = Contains (not_allowed_keys c.policy c.graph) key
HoldsAs code.Duplicate c facts key = IsDuplicate c.policy c.graph facts.chains key
HoldsAs code.Skipped c facts key = Contains (skipped_keys c.policy c.graph facts.chains) key
HoldsAs code.Wildcard c facts key = Contains (wildcard_keys c.policy c.graph facts.chains c.view) key
HoldsAs code.UnmatchedSkip c facts key = Contains (unmatched_skip_keys c.policy c.graph facts.chains) key
HoldsAs code.UnnecessarySkip c facts key = Contains (unnecessary_skip_keys c.policy c.graph facts.chains) key
HoldsAs code.AllowedByWrapper c facts key = Contains (allowed_by_wrapper_keys c.policy c.graph) key
HoldsAs code.UnmatchedWrapper c facts key = Contains (unmatched_wrapper_keys c.policy c.graph) key
HoldsAs code.SkippedByRoot c facts key = Contains (skipped_by_root_keys c.policy c.graph facts.chains) key
HoldsAs code.UnmatchedSkipRoot c facts key = Contains (unmatched_skip_root_keys c.policy c.graph) key
HoldsAs code.BuildScriptNotAllowed c facts key = Contains (build_keys_in c facts) key
HoldsAs code.ExactFeaturesMismatch c facts key = Contains (mismatched_keys c.policy c.graph) key
HoldsAs code.FeatureNotExplicitlyAllowed c facts key = IsFeatureNotAllowed c.policy c.graph key
HoldsAs code.FeatureBanned c facts key = Contains (feature_banned_keys c.policy c.graph) key
HoldsAs code.UnknownFeature c facts key =
    Contains (unknown_feature_keys c.policy c.graph) key ⊎ Contains (build_keys_in c facts) key
HoldsAs code.DefaultFeatureEnabled c facts key = Contains (default_enabled_keys c.policy c.graph) key
HoldsAs code.PathBypassed c facts key = Contains (build_keys_in c facts) key
HoldsAs code.PathBypassedByGlob c facts key = Contains (build_keys_in c facts) key
HoldsAs code.ChecksumMatch c facts key = Contains (build_keys_in c facts) key
HoldsAs code.ChecksumMismatch c facts key = Contains (build_keys_in c facts) key
HoldsAs code.DeniedByExtension c facts key = Contains (build_keys_in c facts) key
HoldsAs code.DetectedExecutable c facts key = Contains (build_keys_in c facts) key
HoldsAs code.DetectedExecutableScript c facts key = Contains (build_keys_in c facts) key
HoldsAs code.UnableToCheckPath c facts key = Contains (build_keys_in c facts) key
HoldsAs code.FeaturesEnabled c facts key = Contains (build_keys_in c facts) key
HoldsAs code.UnmatchedBypass c facts key = Contains (build_keys_in c facts) key
HoldsAs code.UnmatchedPathBypass c facts key = Contains (build_keys_in c facts) key
HoldsAs code.UnmatchedGlob c facts key = Contains (build_keys_in c facts) key
HoldsAs code.UnusedWrapper c facts key = Contains (unused_wrapper_keys c.policy c.graph) key
HoldsAs code.WorkspaceDuplicate c facts key = Contains (workspace_duplicate_keys c.policy c.graph c.view) key
HoldsAs code.UnresolvedWorkspaceDependency c facts key =
    Contains (unresolved_keys c.policy c.graph facts.chains c.view) key
HoldsAs code.UnusedWorkspaceDependency c facts key = Contains (unused_entry_keys c.policy c.view) key
HoldsAs code.ReplacedInStd c facts key = Contains (replaced_keys_in c) key
HoldsAs code.UnmatchedReplacementIgnore c facts key = Contains (unmatched_ignore_keys_in c) key

-- the message of a key of a code of the bans check
unfoldable pub message_as : Code → Circumstances → Key → Message
message_as code.Banned c key = banned_diag c.policy c.graph c.files.policy key
message_as code.Allowed c key = allowed_diag c.policy c.graph c.files.policy key
message_as code.NotAllowed c key = not_allowed_diag c.graph key
message_as code.Duplicate c key = duplicate_diag c.policy c.graph c.files.lock key
message_as code.Skipped c key = skipped_diag c.policy c.graph c.files.policy key
message_as code.Wildcard c key = wildcard_diag c.policy c.graph c.view key
message_as code.UnmatchedSkip c key = unmatched_skip_diag c.policy c.files.policy key
message_as code.UnnecessarySkip c key = unnecessary_skip_diag c.policy c.files.policy key
message_as code.AllowedByWrapper c key = allowed_by_wrapper_diag c.policy c.graph c.files.policy key
message_as code.UnmatchedWrapper c key = unmatched_wrapper_diag c.policy c.graph c.files.policy key
message_as code.SkippedByRoot c key = skipped_by_root_diag c.policy c.graph c.files.policy key
message_as code.UnmatchedSkipRoot c key = unmatched_skip_root_diag c.files.policy key
message_as code.BuildScriptNotAllowed c key = script_denied_diag c key
message_as code.ExactFeaturesMismatch c key = mismatched_diag c.policy c.graph c.files.policy key
message_as code.FeatureNotExplicitlyAllowed c key = feature_not_allowed_diag c.policy c.graph c.files.policy key
message_as code.FeatureBanned c key = feature_banned_diag c.policy c.graph c.files.policy key
message_as code.UnknownFeature c key =
    unknown_feature_diag c.policy (required_features c.building) c.graph c.files.policy key
message_as code.DefaultFeatureEnabled c key = default_enabled_diag c.policy c.graph c.files.policy key
message_as code.PathBypassed c key = path_bypassed_diag c key
message_as code.PathBypassedByGlob c key = build_diag bypassed_by_glob_diag c key
message_as code.ChecksumMatch c key = checksum_match_diag c key
message_as code.ChecksumMismatch c key = build_diag checksum_mismatch_diag c key
message_as code.DeniedByExtension c key = build_diag denied_by_extension_diag c key
message_as code.DetectedExecutable c key = detected_diag severity.Error c key
message_as code.DetectedExecutableScript c key = build_diag script_diag c key
message_as code.UnableToCheckPath c key = unable_to_check_diag c key
message_as code.FeaturesEnabled c key = build_diag features_enabled_diag c key
message_as code.UnmatchedBypass c key = unmatched_bypass_diag c.files.policy key
message_as code.UnmatchedPathBypass c key = unmatched_path_diag c key
message_as code.UnmatchedGlob c key = unmatched_glob_diag c key
message_as code.UnusedWrapper c key = unused_wrapper_diag c.files.policy key
message_as code.WorkspaceDuplicate c key = workspace_duplicate_diag c.policy c.graph c.view key
message_as code.UnresolvedWorkspaceDependency c key = unresolved_diag c.graph c.view key
message_as code.UnusedWorkspaceDependency c key = unused_entry_diag c.policy c.view key
message_as code.ReplacedInStd c key = replaced_diag_in c key
message_as code.UnmatchedReplacementIgnore c key = unmatched_ignore_diag_in c key

-- when a key of a code of the licence check holds; the check reads no files
abbrev pub LicenseHolds : LicenseCode → Option Licensing → Graph → Key → Type 0
LicenseHolds license.Accepted licensing g key = IsOfLicences accepted_keys licensing g key
LicenseHolds license.Rejected licensing g key = IsOfLicences rejected_keys licensing g key
LicenseHolds license.Unlicensed licensing g key = IsOfLicences unlicensed_keys licensing g key
LicenseHolds license.ParseError licensing g key = IsOfLicences parse_error_keys licensing g key
LicenseHolds license.SkippedPrivateWorkspaceCrate licensing g key =
    IsOfLicences skipped_private_keys licensing g key
LicenseHolds license.LicenseNotEncountered licensing g key = IsOfLicences not_encountered_keys licensing g key
LicenseHolds license.LicenseExceptionNotEncountered licensing g key =
    IsOfLicences exception_not_encountered_keys licensing g key

-- the message of a key of a code of the licence check
unfoldable pub message_licensed : LicenseCode → Option Licensing → Graph → ℕ → Key → Message
message_licensed license.Accepted licensing g file key = accepted_diag g key
message_licensed license.Rejected licensing g file key = rejected_diag_in licensing g key
message_licensed license.Unlicensed licensing g file key = unlicensed_diag g key
message_licensed license.ParseError licensing g file key = parse_error_diag g key
message_licensed license.SkippedPrivateWorkspaceCrate licensing g file key = skipped_private_diag g key
message_licensed license.LicenseNotEncountered licensing g file key = not_encountered_diag_in licensing file key
message_licensed license.LicenseExceptionNotEncountered licensing g file key = exception_not_encountered_diag file key
