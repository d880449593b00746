-- The spans in a policy's text that labels point at.
use Rattle.std.specs.Prelude.{ℕ, ◌≢◌, List, [], ◌∷◌, ◌++◌, All, AllPairs, map, Option, None, Some}
use Rattle.std.specs.List.{flat_map}
use Rattle.deny_base.specs.declared.finding.Diagnostic.{Diagnostic}
use Rattle.deny_base.specs.declared.span.Span.{Span}
use Rattle.deny_base.specs.declared.span.Spanned.{Spanned}
use Rattle.deny_cfg_build.specs.declared.glob_set.ValidGlobSet.{ValidGlobSet}
use Rattle.deny_cfg_build.specs.declared.pattern.GlobPattern.{GlobPattern}
use Rattle.deny_cfg_build.specs.declared.pattern.GlobPattern.TheVariants.{Builtin, User}
use Rattle.deny_cfg_build.specs.declared.valid.ValidBuildConfig.{ValidBuildConfig}
use Rattle.deny_cfg_build.specs.declared.valid.ValidBypass.{ValidBypass}
use Rattle.deny_cfg_tables.specs.declared.bans.cfg.bypass.BypassPath.{BypassPath}
use Rattle.deny_cfg_tables.specs.declared.bans.cfg.std_replacements.StdReplacementConfig.{StdReplacementConfig}
use Rattle.deny_cfg_tables.specs.declared.bans.cfg.tree_skip.TreeSkipExtended.{TreeSkipExtended}
use Rattle.deny_cfg_tables.specs.declared.licenses.config.Config as licenses
use Rattle.deny_cfg_tables.specs.declared.licenses.exception.Exception.{Exception}
use Rattle.deny_cfg.specs.Marks.{IsPolicySpan}
use Rattle.deny_cfg.specs.declared.bans.cfg.valid.KrateBan.{KrateBan}
use Rattle.deny_cfg.specs.declared.bans.cfg.valid.ValidConfig.{ValidConfig}
use Rattle.deny_cfg.specs.declared.bans.cfg.valid.ValidKrateFeatures.{ValidKrateFeatures}
use Rattle.deny_cfg.specs.declared.expired.ExpiredWaiver.{ExpiredWaiver}
use Rattle.deny_cfg_entries.specs.declared.package_spec.PackageSpec.{PackageSpec}
use Rattle.deny_cfg_entries.specs.declared.reason.Reason.{Reason}
use Rattle.deny_cfg_entries.specs.declared.spec_or_extended.PackageSpecOrExtended.{PackageSpecOrExtended}
use Rattle.deny_cfg_entries.specs.declared.waiver.Waiver.{Waiver}
use Rattle.deny_spec.specs.Policy.{SpannedText}

abbrev pub of_some : {A : Type 0} → (A → List Span) → Option A → List Span
of_some spans None = []
of_some spans (Some x) = spans x

abbrev pub joined : List (List Span) → List Span
joined lists = flat_map (λ spans. spans) lists

abbrev pub own_span : {T : Type 0} → Spanned T → List Span
own_span x = x.span ∷ []

abbrev pub word_spans : List SpannedText → List Span
word_spans words = flat_map own_span words

abbrev pub spec_span : PackageSpec → List Span
spec_span spec = own_span spec.name

abbrev pub reason_span : Reason → List Span
reason_span reason = own_span reason.0

-- an entry: the span of its name, and the spans of what it gives beside its spec
abbrev pub with_spec : {T : Type 0} → (T → List Span) → PackageSpecOrExtended T → List Span
with_spec spans e = spec_span e.spec ++ of_some spans e.inner

abbrev pub ban_spans : KrateBan → List Span
ban_spans ban =
    joined (of_some word_spans ban.wrappers ∷ of_some reason_span ban.reason ∷ of_some own_span ban.use_instead ∷ [])

-- a waiver: the spans of its reason and of its last day
abbrev pub waiver_spans : Waiver → List Span
waiver_spans waiver = joined (of_some reason_span waiver.reason ∷ of_some own_span waiver.expires ∷ [])

abbrev pub root_spans : TreeSkipExtended → List Span
root_spans skip = joined (of_some reason_span skip.reason ∷ of_some own_span skip.expires ∷ [])

-- an entry of `features`, given the spans of a reason
abbrev pub feature_spans_by : (Reason → List Span) → ValidKrateFeatures → List Span
feature_spans_by reasons f =
    spec_span f.spec
    ++ joined (word_spans f.features.allow.value ∷ word_spans f.features.deny ∷ of_some reasons f.reason ∷ [])

abbrev pub features_spans : ValidKrateFeatures → List Span
features_spans = feature_spans_by reason_span

abbrev pub std_spans_by : (Waiver → List Span) → StdReplacementConfig → List Span
std_spans_by waivers std = flat_map (with_spec waivers) std.ignore

abbrev pub std_spans : StdReplacementConfig → List Span
std_spans = std_spans_by waiver_spans

-- an allowed file, with its checksum
abbrev pub path_spans : BypassPath → List Span
path_spans file = joined (own_span file.path ∷ of_some own_span file.checksum ∷ [])

-- a pattern that the policy writes; a built-in pattern is in another file
abbrev pub pattern_span : GlobPattern → List Span
pattern_span (Builtin glob) = []
pattern_span (User word) = own_span word

abbrev pub pattern_spans : ValidGlobSet → List Span
pattern_spans globs = flat_map pattern_span globs.patterns

-- an entry of `bypass`: its name, the checksum of the script, its features, globs and paths, and its last day
abbrev pub bypass_spans : ValidBypass → List Span
bypass_spans bypass =
    spec_span bypass.spec
    ++ joined (
    of_some own_span bypass.build_script
    ∷ word_spans bypass.required_features
    ∷ of_some pattern_spans bypass.allow_globs
    ∷ flat_map path_spans bypass.allow
    ∷ of_some own_span bypass.expires
    ∷ []
    )

-- the table `build`: the extensions of scripts, and its entries
abbrev pub build_spans : ValidBuildConfig → List Span
build_spans build =
    joined (pattern_spans build.script_extensions ∷ flat_map bypass_spans build.bypass ∷ [])

-- the spans of all names, features and levels, given those of what bans, reasons, waivers and trees have besides
abbrev pub spans_by : (KrateBan → List Span) → (Reason → List Span) → (Waiver → List Span)
    → (TreeSkipExtended → List Span) → ValidConfig → List Span
spans_by bans reasons waivers trees cfg = joined (
    (flat_map (with_spec bans) cfg.denied ++ flat_map spec_span cfg.denied_multiple_versions)
    ∷ flat_map (with_spec reasons) cfg.allowed
    ∷ of_some own_span cfg.external_default_features
    ∷ of_some own_span cfg.workspace_default_features
    ∷ flat_map (feature_spans_by reasons) cfg.features
    ∷ flat_map (with_spec waivers) cfg.skipped
    ∷ flat_map (with_spec trees) cfg.tree_skipped
    ∷ of_some (std_spans_by waivers) cfg.std_replacements
    ∷ of_some build_spans cfg.build
    ∷ []
    )

-- the spans of all names, words, reasons and levels that the rules report, also those that tell entries apart
unfoldable pub word_labels : ValidConfig → List Span
word_labels cfg = spans_by ban_spans reason_span waiver_spans root_spans cfg

-- an exception: its name, and its last day
abbrev pub exception_span : Exception → List Span
exception_span e = spec_span e.spec ++ of_some own_span e.expires

-- the spans of all licences that every crate may ask for, and those of all exceptions
unfoldable pub licence_labels : licenses.Config → List Span
licence_labels config = joined (flat_map own_span config.allow ∷ flat_map exception_span config.exceptions ∷ [])

abbrev pub licence_spans : Option licenses.Config → List Span
licence_spans licensing = of_some licence_labels licensing

-- a waiver that has expired: the spans of its name and of its last day, and that of its reason
abbrev pub expired_spans_of : ExpiredWaiver → List Span
expired_spans_of waiver = waiver.spec.name.span ∷ waiver.expires.span ∷ of_some reason_span waiver.reason

abbrev pub expired_spans : List ExpiredWaiver → List Span
expired_spans waivers = flat_map expired_spans_of waivers

-- Each of these spans lies in the text and is that of a value of its tree or of a name in one, and no two of them start
-- at the same offset.
pub record AreLabels (text : List ℕ) (spans : List Span) : Type 0 where
  pub located : All (IsPolicySpan text) spans
  pub apart : AllPairs (λ one other. one.start ≢ other.start) spans

-- the span of the older key that stands for the table `build`
abbrev pub older_span : ValidConfig → List Span
older_span cfg = of_some (λ build. of_some (λ span. span ∷ []) build.older_key) cfg.build

-- the spans of the labels of some diagnostics
abbrev pub reported_spans : List Diagnostic → List Span
reported_spans reported = flat_map (λ d. map (λ label. label.span) d.labels) reported
