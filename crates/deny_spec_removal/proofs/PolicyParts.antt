-- Which keys hold where entries are taken out of one part of a policy: by the part that the rule of each code reads, a
-- record for each part with a field for each of its codes.
use Rattle.std.proofs.Common.{◌≡◌, List, Option, ap, false, not, refl}
use Rattle.std.proofs.lemmas.Bool.{not-true}
use Rattle.std.proofs.lemmas.List.Kept.{IsStrictlySortedBy-filter}
use Rattle.deny_base_lists.proofs.Members.{Contains-filter, Contains-from_filter}
use Rattle.deny_base_lists.specs.Ascending.{Lists}
use Rattle.deny_base.specs.KeyOrder.{key_cmp}
use Rattle.deny_base.specs.declared.code.Code.{Code}
use Rattle.deny_base.specs.declared.code.Code.TheVariants as code
use Rattle.deny_base.specs.declared.code.DiagnosticCode.{DiagnosticCode}
use Rattle.deny_base.specs.declared.code.DiagnosticCode.TheVariants.{Deprecated, Bans, License, Expired}
use Rattle.deny_base.specs.declared.entry.EntryId.{EntryId}
use Rattle.deny_base.specs.declared.key.Key.{Key}
use Rattle.deny_base.specs.declared.license_code.LicenseCode.{LicenseCode}
use Rattle.deny_spec.specs.Building.{Building}
use Rattle.deny_spec.specs.Licensing.{Licensing}
use Rattle.deny_spec.specs.Policy.{Ban, Entry, Policy, Replacing, Root}
use Rattle.deny_spec_report.specs.Circumstances.{Circumstances}
use Rattle.deny_spec_report.specs.Facts.{Facts}
use Rattle.deny_spec_report.specs.Holding.{HoldsBy, Holds}
use Rattle.deny_spec_removal.specs.Removal.{names, names_as, unnaming}

-- ---- circumstances with other parts

-- the policy with other entries that ban, skip and ignore
abbrev pub with_lists : Policy → List Ban → List Entry → List Root → Option Replacing → Policy
with_lists p deny skip skip_tree replacing =
    record p { deny = deny; skip = skip; skip_tree = skip_tree; replacing = replacing }

abbrev pub with_parts : Circumstances → List Ban → List Entry → List Root → Option Replacing → Option Licensing
    → Option Building → Circumstances
with_parts c deny skip skip_tree replacing licensing building = record c {
  policy = with_lists c.policy deny skip skip_tree replacing;
  licensing = licensing;
  building = building;
}

-- ---- keys that hold still

-- a key of a code that holds in circumstances holds in the rest unless it names an entry that is taken out, and a key
-- that holds in the rest held and names none
abbrev pub HoldsStill : Circumstances → Circumstances → Facts → List EntryId → Key → DiagnosticCode → Type 0
HoldsStill c rest facts taken key d = key.code ≡ d
    → (names_as taken d key ≡ false → HoldsBy d c facts key → HoldsBy d rest facts key)
    × (HoldsBy d rest facts key → HoldsBy d c facts key × (names_as taken d key ≡ false))

-- the codes of bans and their wrappers
pub record BansHold (c rest : Circumstances) (facts : Facts) (taken : List EntryId) (key : Key) : Type 0 where
  pub banned : HoldsStill c rest facts taken key (Bans code.Banned)
  pub allowed_by_wrapper : HoldsStill c rest facts taken key (Bans code.AllowedByWrapper)
  pub unmatched_wrapper : HoldsStill c rest facts taken key (Bans code.UnmatchedWrapper)
  pub unused_wrapper : HoldsStill c rest facts taken key (Bans code.UnusedWrapper)

-- the codes of the allow list
pub record AllowListHolds (c rest : Circumstances) (facts : Facts) (taken : List EntryId) (key : Key) : Type 0 where
  pub allowed : HoldsStill c rest facts taken key (Bans code.Allowed)
  pub not_allowed : HoldsStill c rest facts taken key (Bans code.NotAllowed)

-- the codes of skips, skipped trees and duplicates
pub record SkipsHold (c rest : Circumstances) (facts : Facts) (taken : List EntryId) (key : Key) : Type 0 where
  pub skipped : HoldsStill c rest facts taken key (Bans code.Skipped)
  pub skipped_by_root : HoldsStill c rest facts taken key (Bans code.SkippedByRoot)
  pub unmatched_skip : HoldsStill c rest facts taken key (Bans code.UnmatchedSkip)
  pub unmatched_skip_root : HoldsStill c rest facts taken key (Bans code.UnmatchedSkipRoot)
  pub unnecessary_skip : HoldsStill c rest facts taken key (Bans code.UnnecessarySkip)
  pub duplicate : HoldsStill c rest facts taken key (Bans code.Duplicate)

-- the codes of features, also of those that bypasses require
pub record FeaturesHold (c rest : Circumstances) (facts : Facts) (taken : List EntryId) (key : Key) : Type 0 where
  pub mismatch : HoldsStill c rest facts taken key (Bans code.ExactFeaturesMismatch)
  pub not_explicitly_allowed : HoldsStill c rest facts taken key (Bans code.FeatureNotExplicitlyAllowed)
  pub feature_banned : HoldsStill c rest facts taken key (Bans code.FeatureBanned)
  pub unknown : HoldsStill c rest facts taken key (Bans code.UnknownFeature)
  pub default_enabled : HoldsStill c rest facts taken key (Bans code.DefaultFeatureEnabled)

-- the codes of what manifests write
pub record ManifestsHold (c rest : Circumstances) (facts : Facts) (taken : List EntryId) (key : Key) : Type 0 where
  pub wildcard : HoldsStill c rest facts taken key (Bans code.Wildcard)
  pub workspace_duplicate : HoldsStill c rest facts taken key (Bans code.WorkspaceDuplicate)
  pub unresolved : HoldsStill c rest facts taken key (Bans code.UnresolvedWorkspaceDependency)
  pub unused : HoldsStill c rest facts taken key (Bans code.UnusedWorkspaceDependency)

-- the codes of what the standard library replaces
pub record ReplacingHolds (c rest : Circumstances) (facts : Facts) (taken : List EntryId) (key : Key) : Type 0 where
  pub replaced : HoldsStill c rest facts taken key (Bans code.ReplacedInStd)
  pub unmatched_ignore : HoldsStill c rest facts taken key (Bans code.UnmatchedReplacementIgnore)

-- the codes of build scripts and packaged files
pub record BuildsHold (c rest : Circumstances) (facts : Facts) (taken : List EntryId) (key : Key) : Type 0 where
  pub script_not_allowed : HoldsStill c rest facts taken key (Bans code.BuildScriptNotAllowed)
  pub path_bypassed : HoldsStill c rest facts taken key (Bans code.PathBypassed)
  pub path_bypassed_by_glob : HoldsStill c rest facts taken key (Bans code.PathBypassedByGlob)
  pub checksum_match : HoldsStill c rest facts taken key (Bans code.ChecksumMatch)
  pub checksum_mismatch : HoldsStill c rest facts taken key (Bans code.ChecksumMismatch)
  pub denied_by_extension : HoldsStill c rest facts taken key (Bans code.DeniedByExtension)
  pub executable : HoldsStill c rest facts taken key (Bans code.DetectedExecutable)
  pub executable_script : HoldsStill c rest facts taken key (Bans code.DetectedExecutableScript)
  pub unable_to_check : HoldsStill c rest facts taken key (Bans code.UnableToCheckPath)
  pub features_enabled : HoldsStill c rest facts taken key (Bans code.FeaturesEnabled)
  pub unmatched_bypass : HoldsStill c rest facts taken key (Bans code.UnmatchedBypass)
  pub unmatched_path : HoldsStill c rest facts taken key (Bans code.UnmatchedPathBypass)
  pub unmatched_glob : HoldsStill c rest facts taken key (Bans code.UnmatchedGlob)

-- all parts, with the deprecated key, what expired and the licence check
pub record PartsHold (c rest : Circumstances) (facts : Facts) (taken : List EntryId) (key : Key) : Type 0 where
  pub deprecated : HoldsStill c rest facts taken key Deprecated
  pub expired : HoldsStill c rest facts taken key Expired
  pub bans : BansHold c rest facts taken key
  pub allow_list : AllowListHolds c rest facts taken key
  pub skips : SkipsHold c rest facts taken key
  pub features : FeaturesHold c rest facts taken key
  pub manifests : ManifestsHold c rest facts taken key
  pub replacing : ReplacingHolds c rest facts taken key
  pub builds : BuildsHold c rest facts taken key
  pub licences : (d : LicenseCode) → HoldsStill c rest facts taken key (License d)

-- ---- code by code

module _ (c rest : Circumstances) (facts : Facts) (taken : List EntryId) (key : Key)
    (parts : PartsHold c rest facts taken key) where
  bans_code_holds : (d : Code) → HoldsStill c rest facts taken key (Bans d)
  bans_code_holds code.Banned = parts.bans.banned
  bans_code_holds code.Allowed = parts.allow_list.allowed
  bans_code_holds code.NotAllowed = parts.allow_list.not_allowed
  bans_code_holds code.Duplicate = parts.skips.duplicate
  bans_code_holds code.Skipped = parts.skips.skipped
  bans_code_holds code.Wildcard = parts.manifests.wildcard
  bans_code_holds code.UnmatchedSkip = parts.skips.unmatched_skip
  bans_code_holds code.UnnecessarySkip = parts.skips.unnecessary_skip
  bans_code_holds code.AllowedByWrapper = parts.bans.allowed_by_wrapper
  bans_code_holds code.UnmatchedWrapper = parts.bans.unmatched_wrapper
  bans_code_holds code.SkippedByRoot = parts.skips.skipped_by_root
  bans_code_holds code.UnmatchedSkipRoot = parts.skips.unmatched_skip_root
  bans_code_holds code.BuildScriptNotAllowed = parts.builds.script_not_allowed
  bans_code_holds code.ExactFeaturesMismatch = parts.features.mismatch
  bans_code_holds code.FeatureNotExplicitlyAllowed = parts.features.not_explicitly_allowed
  bans_code_holds code.FeatureBanned = parts.features.feature_banned
  bans_code_holds code.UnknownFeature = parts.features.unknown
  bans_code_holds code.DefaultFeatureEnabled = parts.features.default_enabled
  bans_code_holds code.PathBypassed = parts.builds.path_bypassed
  bans_code_holds code.PathBypassedByGlob = parts.builds.path_bypassed_by_glob
  bans_code_holds code.ChecksumMatch = parts.builds.checksum_match
  bans_code_holds code.ChecksumMismatch = parts.builds.checksum_mismatch
  bans_code_holds code.DeniedByExtension = parts.builds.denied_by_extension
  bans_code_holds code.DetectedExecutable = parts.builds.executable
  bans_code_holds code.DetectedExecutableScript = parts.builds.executable_script
  bans_code_holds code.UnableToCheckPath = parts.builds.unable_to_check
  bans_code_holds code.FeaturesEnabled = parts.builds.features_enabled
  bans_code_holds code.UnmatchedBypass = parts.builds.unmatched_bypass
  bans_code_holds code.UnmatchedPathBypass = parts.builds.unmatched_path
  bans_code_holds code.UnmatchedGlob = parts.builds.unmatched_glob
  bans_code_holds code.UnusedWrapper = parts.bans.unused_wrapper
  bans_code_holds code.WorkspaceDuplicate = parts.manifests.workspace_duplicate
  bans_code_holds code.UnresolvedWorkspaceDependency = parts.manifests.unresolved
  bans_code_holds code.UnusedWorkspaceDependency = parts.manifests.unused
  bans_code_holds code.ReplacedInStd = parts.replacing.replaced
  bans_code_holds code.UnmatchedReplacementIgnore = parts.replacing.unmatched_ignore

  code_holds : (d : DiagnosticCode) → HoldsStill c rest facts taken key d
  code_holds Deprecated = parts.deprecated
  code_holds (Bans d) = bans_code_holds d
  code_holds (License d) = parts.licences d
  code_holds Expired = parts.expired

  key_there : names taken key ≡ false → Holds c facts key → Holds rest facts key
  key_there unnamed is = (code_holds key.code refl).0 unnamed is

  key_back : Holds rest facts key → Holds c facts key × (names taken key ≡ false)
  key_back is = (code_holds key.code refl).1 is

-- ---- all keys

-- the keys that name no entry that is taken out are those that hold in the rest
pub listed_in_rest : (c rest : Circumstances) (facts : Facts) (taken : List EntryId) (keys : List Key)
    → ((key : Key) → PartsHold c rest facts taken key) → Lists key_cmp (Holds c facts) keys
    → Lists key_cmp (Holds rest facts) (unnaming taken keys)
listed_in_rest c rest facts taken keys parts listed = record {
  ascending = IsStrictlySortedBy-filter key_cmp (λ key. not (names taken key)) keys listed.ascending;
  whole = λ key is. let old = key_back c rest facts taken key (parts key) is in
      Contains-filter (λ k. not (names taken k)) keys key (listed.whole key old.0) (ap (λ t. not t) old.1);
  sound = λ key is. let kept = Contains-from_filter (λ k. not (names taken k)) keys key is in
      key_there c rest facts taken key (parts key) (not-true (names taken key) kept.1) (listed.sound key kept.0);
}
