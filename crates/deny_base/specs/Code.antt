-- The codes of findings: a table of what is true of each code, their order, and the order of the sections of a report.
use Rattle.std.specs.Prelude.{ℕ, ◌+◌, Bool, true, false, List, Option, None, codes}
use Rattle.std.specs.Ordering.{nat_cmp, on}
use Rattle.std.specs.declared.cmp.Ordering.{Ordering}
use Rattle.deny_base.specs.About.{About, of_graph, of_manifests, of_builds, of_files, of_own_rule}
use Rattle.deny_base.specs.About.{shows_entry, names_unused, errs_by}
use Rattle.deny_base.specs.LicenseCode.{license_code_name, license_code_number, license_has_entry, license_is_of_path}
use Rattle.deny_base.specs.LicenseCode.{license_rule, license_reported_here, license_unused_kind}
use Rattle.deny_base.specs.Rule.{Rule, OnCrates, OnWildcards, OnFeatures, OnDefaultFeatures, OnWorkspaceDependencies}
use Rattle.deny_base.specs.Rule.{OnStdReplacements, OnBuildScripts, OnPackageFiles}
use Rattle.deny_base.specs.declared.code.Code.{Code}
use Rattle.deny_base.specs.declared.code.Code.TheVariants as bans
use Rattle.deny_base.specs.declared.code.DiagnosticCode.{DiagnosticCode}
use Rattle.deny_base.specs.declared.code.DiagnosticCode.TheVariants.{Deprecated, Bans, License, Expired}
use Rattle.deny_base.specs.declared.entry.EntryKind.{EntryKind}
use Rattle.deny_base.specs.declared.entry.EntryKind.TheVariants as kind
use Rattle.deny_base.specs.declared.license_code.LicenseCode.TheVariants as license
use Rattle.deny_base.specs.declared.key.Section.{Section}
use Rattle.deny_base.specs.declared.key.Section.TheVariants as section

-- what is true of each code of the bans check, in the order of declaration
abbrev pub about : Code → About
about bans.Banned = errs_by OnCrates (shows_entry (of_graph 0 (codes "banned")))
about bans.Allowed = shows_entry (of_graph 1 (codes "allowed"))
about bans.NotAllowed = errs_by OnCrates (of_graph 2 (codes "not-allowed"))
about bans.Duplicate = errs_by OnCrates (of_graph 3 (codes "duplicate"))
about bans.Skipped = shows_entry (of_graph 4 (codes "skipped"))
about bans.Wildcard = errs_by OnWildcards (of_manifests 5 (codes "wildcard"))
about bans.UnmatchedSkip = names_unused kind.Skip (of_graph 6 (codes "unmatched-skip"))
about bans.UnnecessarySkip = shows_entry (of_graph 7 (codes "unnecessary-skip"))
about bans.AllowedByWrapper = shows_entry (of_graph 8 (codes "allowed-by-wrapper"))
about bans.UnmatchedWrapper = shows_entry (of_graph 9 (codes "unmatched-wrapper"))
about bans.SkippedByRoot = shows_entry (of_graph 10 (codes "skipped-by-root"))
about bans.UnmatchedSkipRoot = names_unused kind.SkipRoot (of_graph 11 (codes "unmatched-skip-root"))
about bans.BuildScriptNotAllowed = errs_by OnBuildScripts (of_builds 12 (codes "build-script-not-allowed"))
about bans.ExactFeaturesMismatch = errs_by OnFeatures (shows_entry (of_graph 13 (codes "exact-features-mismatch")))
about bans.FeatureNotExplicitlyAllowed =
    errs_by OnFeatures (shows_entry (of_graph 14 (codes "feature-not-explicitly-allowed")))
about bans.FeatureBanned = errs_by OnFeatures (shows_entry (of_graph 15 (codes "feature-banned")))
about bans.UnknownFeature = shows_entry (of_builds 16 (codes "unknown-feature"))
about bans.DefaultFeatureEnabled =
    errs_by OnDefaultFeatures (shows_entry (of_graph 17 (codes "default-feature-enabled")))
about bans.PathBypassed = shows_entry (of_files 18 (codes "path-bypassed"))
about bans.PathBypassedByGlob = of_files 19 (codes "path-bypassed-by-glob")
about bans.ChecksumMatch = shows_entry (of_files 20 (codes "checksum-match"))
about bans.ChecksumMismatch = errs_by OnPackageFiles (shows_entry (of_files 21 (codes "checksum-mismatch")))
about bans.DeniedByExtension = errs_by OnPackageFiles (of_files 22 (codes "denied-by-extension"))
about bans.DetectedExecutable = errs_by OnPackageFiles (of_files 23 (codes "detected-executable"))
about bans.DetectedExecutableScript = errs_by OnPackageFiles (of_files 24 (codes "detected-executable-script"))
about bans.UnableToCheckPath = errs_by OnPackageFiles (of_files 25 (codes "unable-to-check-path"))
about bans.FeaturesEnabled = shows_entry (of_files 26 (codes "features-enabled"))
about bans.UnmatchedBypass = names_unused kind.Bypass (of_files 27 (codes "unmatched-bypass"))
about bans.UnmatchedPathBypass = names_unused kind.BypassPath (of_files 28 (codes "unmatched-path-bypass"))
about bans.UnmatchedGlob = names_unused kind.BypassGlob (of_files 29 (codes "unmatched-glob"))
about bans.UnusedWrapper = names_unused kind.Wrapper (of_graph 30 (codes "unused-wrapper"))
about bans.WorkspaceDuplicate = errs_by OnWorkspaceDependencies (of_manifests 31 (codes "workspace-duplicate"))
about bans.UnresolvedWorkspaceDependency = of_manifests 32 (codes "unresolved-workspace-dependency")
about bans.UnusedWorkspaceDependency =
    errs_by OnWorkspaceDependencies (of_manifests 33 (codes "unused-workspace-dependency"))
about bans.ReplacedInStd = errs_by OnStdReplacements (of_own_rule 34 (codes "replaced-in-std"))
about bans.UnmatchedReplacementIgnore =
    names_unused kind.ReplacementIgnore (of_own_rule 35 (codes "unmatched-replacement-ignore"))

-- ---- words

-- the word of a code in the lines of a report
unfoldable pub code_name : Code → List ℕ
code_name code = (about code).word

abbrev pub diagnostic_code_name : DiagnosticCode → List ℕ
diagnostic_code_name Deprecated = codes "deprecated"
diagnostic_code_name (Bans code) = code_name code
diagnostic_code_name (License code) = license_code_name code
diagnostic_code_name Expired = codes "waiver-expired"

-- ---- what is true of each

-- the kind of entry that the finding says is unused
abbrev pub bans_unused_kind : Code → Option EntryKind
bans_unused_kind code = (about code).unused

abbrev pub unused_kind : DiagnosticCode → Option EntryKind
unused_kind Deprecated = None
unused_kind (Bans code) = bans_unused_kind code
unused_kind (License code) = license_unused_kind code
unused_kind Expired = None

-- whether the entry of the key is a span of the policy, and neither empty nor a span of a manifest
abbrev pub bans_have_entry : Code → Bool
bans_have_entry code = (about code).shown

abbrev pub has_entry : DiagnosticCode → Bool
has_entry Deprecated = true
has_entry (Bans code) = bans_have_entry code
has_entry (License code) = license_has_entry code
has_entry Expired = true

-- whether findings of a code need no manifest and no package, so that they are exact on every disk; those of licences
-- need none
abbrev pub is_free : Code → Bool
is_free code = (about code).free

abbrev pub asks_no_file : DiagnosticCode → Bool
asks_no_file Deprecated = true
asks_no_file (Bans code) = is_free code
asks_no_file (License code) = true
asks_no_file Expired = true

-- the findings about a file of a package, or about an entry for one, show no crate
abbrev pub bans_is_of_path : Code → Bool
bans_is_of_path code = (about code).of_path

unfoldable pub is_of_path : DiagnosticCode → Bool
is_of_path Deprecated = false
is_of_path (Bans code) = bans_is_of_path code
is_of_path (License code) = license_is_of_path code
is_of_path Expired = false

-- the codes that keys of builds bear
abbrev pub is_of_builds : Code → Bool
is_of_builds code = (about code).of_builds

-- the codes whose diagnostics are made beside the rules that find them: all but those of what the standard library
-- replaces and those of licences, whose diagnostics are made where they are found, and the warnings about the policy
-- itself, which are made as it is read
abbrev pub bans_reported_here : Code → Bool
bans_reported_here code = (about code).here

abbrev pub is_reported_here : DiagnosticCode → Bool
is_reported_here Deprecated = false
is_reported_here (Bans code) = bans_reported_here code
is_reported_here (License code) = license_reported_here code
is_reported_here Expired = false

-- the rule that can report errors by the code
abbrev pub bans_rule : Code → Option Rule
bans_rule code = (about code).rule

abbrev pub rule_of : DiagnosticCode → Option Rule
rule_of Deprecated = None
rule_of (Bans code) = bans_rule code
rule_of (License code) = license_rule code
rule_of Expired = None

-- ---- order

-- codes are ordered as they are declared
unfoldable pub code_number : Code → ℕ
code_number code = (about code).number

-- the number of the first code of licences: that behind the last of bans
abbrev pub first_license : ℕ
first_license = 2 + code_number bans.UnmatchedReplacementIgnore

-- the number of the code of expired waivers: that behind the last of licences
abbrev pub past_licenses : ℕ
past_licenses = 1 + (first_license + license_code_number license.LicenseExceptionNotEncountered)

-- deprecated keys come first, then the codes of bans, then those of licences, then expired waivers
unfoldable pub diagnostic_code_number : DiagnosticCode → ℕ
diagnostic_code_number Deprecated = 0
diagnostic_code_number (Bans code) = 1 + code_number code
diagnostic_code_number (License code) = first_license + license_code_number code
diagnostic_code_number Expired = past_licenses

-- sections are ordered as they are declared
unfoldable pub section_number : Section → ℕ
section_number section.Deprecated = 0
section_number section.Crates = 1
section_number section.Groups = 2
section_number section.Workspace = 3
section_number section.Unused = 4
section_number section.Std = 5
section_number section.Licenses = 6
section_number section.LicensesUnused = 7

abbrev pub code_cmp : Code → Code → Ordering
code_cmp = on code_number nat_cmp

abbrev pub diagnostic_code_cmp : DiagnosticCode → DiagnosticCode → Ordering
diagnostic_code_cmp = on diagnostic_code_number nat_cmp

abbrev pub section_cmp : Section → Section → Ordering
section_cmp = on section_number nat_cmp
