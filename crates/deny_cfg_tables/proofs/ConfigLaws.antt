-- What is read twice from one value is the same: for entries, and for the table `bans`.
use Rattle.std.proofs.Common.{◌≡◌, ℕ, false, true, List, [], Option, None, Some, refl, sym, ap, ◌∙◌}
use Rattle.std.specs.Prelude.{⊤}
use Rattle.std.specs.List.{AllZip}
use Rattle.semver.specs.Identifiers.{parts_of}
use Rattle.semver.specs.declared.Version.{Version}
use Rattle.deny_base.specs.declared.level.LintLevel.TheVariants as level
use Rattle.deny_toml.specs.Calls.{text_in}
use Rattle.deny_toml.specs.value.Value.{Value}
use Rattle.deny_cfg_entries.specs.RustVersion.{rust_version_in}
use Rattle.deny_cfg_entries.specs.Reasons.{ReadsReason, ReadsReasonKey, ReadsReasoned}
use Rattle.deny_cfg_entries.specs.Waivers.{ReadsExpiry, ReadsWaived, ReadsWaiver, waiver_fields}
use Rattle.deny_cfg_tables.specs.Bans.{ReadsBan, ReadsBanEntry, ReadsTreeSkip, ReadsTreeSkipEntry, ban_fields}
use Rattle.deny_cfg_tables.specs.Bans.{tree_skip_fields}
use Rattle.deny_cfg_tables.specs.Config.{ReadsConfig}
use Rattle.deny_cfg_entries.proofs.KeyLaws.{says_of}
use Rattle.deny_cfg_entries.specs.PolicyKey.{name_of}
use Rattle.deny_cfg_entries.specs.Entry.{ReadsEntry, ReadsEntryBy, ReadsEntryKeys, ReadsPair, ReadsSome}
use Rattle.deny_cfg_tables.specs.Features.{ReadsCrateFeatures, ReadsFeatures, lists_in, nowhere}
use Rattle.deny_cfg_entries.specs.Table.{Entries, Field, ReadsIfThere, ReadsTable, at_key}
use Rattle.deny_cfg_entries.specs.Words.{ReadsAs, ReadsBool, ReadsCount, ReadsSpanned, ReadsText, ReadsTexts, level_of}
use Rattle.deny_cfg_entries.specs.Words.{scope_of}
use Rattle.deny_cfg_tables.specs.Highlight.{highlight_of}
use Rattle.deny_cfg_tables.specs.StdReplacements.{ReadsRustVersion, ReadsStd}
use Rattle.deny_cfg_tables.specs.Workspace.{ReadsWorkspace}
use Rattle.deny_cfg_tables.specs.declared.bans.cfg.config.Config.{Config}
use Rattle.deny_cfg_tables.specs.declared.bans.cfg.features.CrateFeatures.{CrateFeatures}
use Rattle.deny_cfg_tables.specs.declared.bans.cfg.highlight.GraphHighlight.TheVariants as highlight
use Rattle.deny_cfg_tables.specs.declared.bans.cfg.std_replacements.StdReplacementConfig.{StdReplacementConfig}
use Rattle.deny_cfg_entries.specs.declared.package_spec.PackageSpec.{PackageSpec}
use Rattle.deny_cfg_entries.specs.declared.policy_key.PolicyKey.TheVariants as key
use Rattle.deny_cfg_entries.specs.declared.scope.Scope.TheVariants as scope
use Rattle.deny_cfg_entries.specs.declared.spec_or_extended.PackageSpecOrExtended.{PackageSpecOrExtended}
use Rattle.deny_cfg_entries.proofs.ReadsLaws.{ReadsAlike, ReadsOne, SpecsAlike, alike_list_or, alike_table, keys_alike}
use Rattle.deny_cfg_entries.proofs.ReadsLaws.{one_as, one_bool, one_count, one_optional, one_or, one_spanned, one_text}
use Rattle.deny_cfg_entries.proofs.ReadsLaws.{one_texts, text_alike}

-- ---- what entries give beside their specs
one_reason : ReadsOne ReadsReason
one_reason v x y one two =
    let words : x.0 ≡ y.0 = one_spanned ReadsText one_text v x.0 y.0 one two in
    λ i. record { 0 = words i }

one_reason_key : ReadsOne ReadsReasonKey
one_reason_key entries x y one two = one_optional ReadsReason one_reason (at_key key.Reason entries) x y one two

pub one_expiry : ReadsOne (ReadsSpanned ReadsExpiry)
one_expiry v x y one two =
    let text : x.value.written ≡ y.value.written = cc (one.1.0, two.1.0) in
    let number : x.value.day.0 ≡ y.value.day.0 = cc (one.1.1, two.1.1, text) in
    let span : x.span ≡ y.span = one.0 ∙ sym two.0 in
    λ i. record { value = record { day = record { 0 = number i }; written = text i }; span = span i }

one_waiver : ReadsOne ReadsWaiver
unfolding name_of
one_waiver entries x y one two =
    let reason =
    one_optional ReadsReason one_reason (at_key key.Reason entries) x.reason y.reason (says_of key.Reason one)
    (says_of key.Reason two) in
    let expires =
    one_optional (ReadsSpanned ReadsExpiry) one_expiry (at_key key.Expires entries) x.expires y.expires
    (says_of key.Expires one) (says_of key.Expires two) in
    λ i. record { reason = reason i; expires = expires i }

one_ban : ReadsOne ReadsBan
unfolding name_of
one_ban entries x y one two =
    let wrappers =
    one_optional (ReadsSpanned ReadsTexts) (one_spanned ReadsTexts one_texts) (at_key key.Wrappers entries)
    x.wrappers y.wrappers (says_of key.Wrappers one) (says_of key.Wrappers two) in
    let flag =
    one_optional (ReadsSpanned ReadsBool) (one_spanned ReadsBool one_bool) (at_key key.DenyMultipleVersions entries)
    x.deny_multiple_versions y.deny_multiple_versions (says_of key.DenyMultipleVersions one)
    (says_of key.DenyMultipleVersions two) in
    let reason =
    one_optional ReadsReason one_reason (at_key key.Reason entries) x.reason y.reason (says_of key.Reason one)
    (says_of key.Reason two) in
    let use_instead =
    one_optional (ReadsSpanned ReadsText) (one_spanned ReadsText one_text) (at_key key.UseInstead entries)
    x.use_instead y.use_instead (says_of key.UseInstead one) (says_of key.UseInstead two) in
    λ i. record {
      wrappers = wrappers i;
      deny_multiple_versions = flag i;
      reason = reason i;
      use_instead = use_instead i;
    }

one_tree_skip : ReadsOne ReadsTreeSkip
unfolding name_of
one_tree_skip entries x y one two =
    let depth =
    one_optional ReadsCount one_count (at_key key.Depth entries) x.depth y.depth (says_of key.Depth one)
    (says_of key.Depth two) in
    let reason =
    one_optional ReadsReason one_reason (at_key key.Reason entries) x.reason y.reason (says_of key.Reason one)
    (says_of key.Reason two) in
    let expires =
    one_optional (ReadsSpanned ReadsExpiry) one_expiry (at_key key.Expires entries) x.expires y.expires
    (says_of key.Expires one) (says_of key.Expires two) in
    λ i. record { depth = depth i; reason = reason i; expires = expires i }

one_features : ReadsOne ReadsFeatures
unfolding name_of
one_features entries x y one two =
    let allow =
    one_or (nowhere []) (ReadsSpanned ReadsTexts) (one_spanned ReadsTexts one_texts) (at_key key.Allow entries)
    x.allow y.allow (says_of key.Allow one) (says_of key.Allow two) in
    let deny =
    one_or [] ReadsTexts one_texts (at_key key.Deny entries) x.deny y.deny (says_of key.Deny one)
    (says_of key.Deny two) in
    let exact =
    one_or (nowhere false) (ReadsSpanned ReadsBool) (one_spanned ReadsBool one_bool) (at_key key.Exact entries)
    x.exact y.exact (says_of key.Exact one) (says_of key.Exact two) in
    let reason =
    one_optional ReadsReason one_reason (at_key key.Reason entries) x.reason y.reason (says_of key.Reason one)
    (says_of key.Reason two) in
    λ i. record { allow = allow i; deny = deny i; exact = exact i; reason = reason i }

one_some : {T : Type 0} (fields : List Field) (Reads : Entries → T → Type 0) → ReadsOne Reads
    → ReadsOne (ReadsSome fields Reads)
one_some fields Reads same entries None None one two = refl
one_some fields Reads same entries None (Some y) one two = absurd (cc (one, two.0))
one_some fields Reads same entries (Some x) None one two = absurd (cc (one.0, two))
one_some fields Reads same entries (Some x) (Some y) one two = ap Some (same entries x y one.1 two.1)

-- two pairs of a spec and what an entry gives beside it are alike
abbrev SaidAlike : {T : Type 0} → PackageSpec × T → PackageSpec × T → Type 0
SaidAlike x y = SpecsAlike x.0 y.0 × (x.1 ≡ y.1)

pair_alike : {T : Type 0} (Reads : Entries → T → Type 0) → ReadsOne Reads → ReadsAlike (ReadsPair Reads) SaidAlike
pair_alike Reads same entries x y one two =
    (keys_alike entries x.0 y.0 one.of_spec two.of_spec, same entries x.1 y.1 one.besides two.besides)

-- two entries are alike: their specs are, and they give the same beside them
abbrev pub EntriesAlike : {T : Type 0} → PackageSpecOrExtended T → PackageSpecOrExtended T → Type 0
EntriesAlike a b = SpecsAlike a.spec b.spec × (a.inner ≡ b.inner)

entry_by_alike : {T : Type 0} (Reads : Entries → Option T → Type 0) → ReadsOne Reads
    → (text : Option (List ℕ)) (v : Value) (a b : PackageSpec) (x y : Option T)
    → ReadsEntryBy Reads text v a x → ReadsEntryBy Reads text v b y → SpecsAlike a b × (x ≡ y)
entry_by_alike Reads same None v a b x y one two =
    alike_table (ReadsPair Reads) SaidAlike (pair_alike Reads same) v (a, x) (b, y) one two
entry_by_alike Reads same (Some text) v a b x y one two = (text_alike v a b one.0 two.0, one.1 ∙ sym two.1)

entry_alike : {T : Type 0} (Reads : Entries → Option T → Type 0) → ReadsOne Reads
    → ReadsAlike (λ v (e : PackageSpecOrExtended T). ReadsEntry Reads v e.spec e.inner) EntriesAlike
entry_alike Reads same v a b one two = entry_by_alike Reads same (text_in v) v a.spec b.spec a.inner b.inner one two

reasoned_alike : ReadsAlike ReadsReasoned EntriesAlike
reasoned_alike = entry_alike ReadsReasonKey one_reason_key

waived_alike : ReadsAlike ReadsWaived EntriesAlike
waived_alike = entry_alike (ReadsSome waiver_fields ReadsWaiver) (one_some waiver_fields ReadsWaiver one_waiver)

ban_alike : ReadsAlike ReadsBanEntry EntriesAlike
ban_alike = entry_alike (ReadsSome ban_fields ReadsBan) (one_some ban_fields ReadsBan one_ban)

tree_skip_alike : ReadsAlike ReadsTreeSkipEntry EntriesAlike
tree_skip_alike =
    entry_alike (ReadsSome tree_skip_fields ReadsTreeSkip) (one_some tree_skip_fields ReadsTreeSkip one_tree_skip)

abbrev pub FeaturesAlike : CrateFeatures → CrateFeatures → Type 0
FeaturesAlike a b = SpecsAlike a.spec b.spec × (lists_in a ≡ lists_in b)

features_keys_alike : ReadsAlike
    (λ entries (read : CrateFeatures). ReadsEntryKeys ReadsFeatures entries read.spec (lists_in read)) FeaturesAlike
features_keys_alike entries a b one two = (
  keys_alike entries a.spec b.spec one.of_spec two.of_spec,
  one_features entries (lists_in a) (lists_in b)
      one.besides two.besides,
)

features_alike : ReadsAlike ReadsCrateFeatures FeaturesAlike
features_alike v a b one two =
    alike_table (λ entries (read : CrateFeatures). ReadsEntryKeys ReadsFeatures entries read.spec (lists_in read))
    FeaturesAlike features_keys_alike v a b one two

-- both are left out, or both are there and alike
abbrev pub BothAlike : {T : Type 0} → (T → T → Type 0) → Option T → Option T → Type 0
BothAlike Alike None None = ⊤
BothAlike Alike None (Some y) = ⊥
BothAlike Alike (Some x) None = ⊥
BothAlike Alike (Some x) (Some y) = Alike x y

pub alike_optional : {T : Type 0} (Reads : Value → T → Type 0) (Alike : T → T → Type 0) → ReadsAlike Reads Alike
    → ReadsAlike (ReadsIfThere Reads) (BothAlike Alike)
alike_optional Reads Alike alike None None None one two = tt
alike_optional Reads Alike alike None None (Some y) one two = absurd (cc two)
alike_optional Reads Alike alike None (Some x) y one two = absurd (cc one)
alike_optional Reads Alike alike (Some v) None y one two = absurd one
alike_optional Reads Alike alike (Some v) (Some x) None one two = absurd two
alike_optional Reads Alike alike (Some v) (Some x) (Some y) one two = alike v x y one two

abbrev pub VersionsAlike : Version → Version → Type 0
VersionsAlike a b = parts_of a ≡ parts_of b

versions_alike : ReadsAlike ReadsRustVersion VersionsAlike
versions_alike v a b one two = one_as rust_version_in v (parts_of a) (parts_of b) one two

-- two tables `std-replacements` are alike
pub record StdAlike (a b : StdReplacementConfig) : Type 0 where
  pub scope : a.scope ≡ b.scope
  pub level : a.level ≡ b.level
  pub rust_version : BothAlike VersionsAlike a.rust_version b.rust_version
  pub ignore : AllZip EntriesAlike a.ignore b.ignore
  pub ignore_rust_version : a.ignore_rust_version ≡ b.ignore_rust_version

std_keys_alike : ReadsAlike ReadsStd StdAlike
unfolding name_of
std_keys_alike entries a b one two = record {
  scope =
      one_or scope.Workspace (ReadsAs scope_of) (one_as scope_of) (at_key key.Scope entries) a.scope b.scope
      (says_of key.Scope one) (says_of key.Scope two);
  level =
      one_or level.Deny (ReadsAs level_of) (one_as level_of) (at_key key.Level entries) a.level b.level
      (says_of key.Level one) (says_of key.Level two);
  rust_version =
      alike_optional ReadsRustVersion VersionsAlike versions_alike (at_key key.RustVersion entries) a.rust_version
      b.rust_version (says_of key.RustVersion one) (says_of key.RustVersion two);
  ignore =
      alike_list_or ReadsWaived EntriesAlike waived_alike (at_key key.Ignore entries) a.ignore b.ignore
      (says_of key.Ignore one) (says_of key.Ignore two);
  ignore_rust_version =
      one_or scope.None (ReadsAs scope_of) (one_as scope_of) (at_key key.IgnoreRustVersion entries)
      a.ignore_rust_version b.ignore_rust_version (says_of key.IgnoreRustVersion one)
      (says_of key.IgnoreRustVersion two);
}

std_alike : ReadsAlike (ReadsTable ReadsStd) StdAlike
std_alike v a b one two = alike_table ReadsStd StdAlike std_keys_alike v a b one two

one_workspace : ReadsOne ReadsWorkspace
unfolding name_of
one_workspace entries x y one two =
    let duplicates =
    one_or level.Deny (ReadsAs level_of) (one_as level_of) (at_key key.Duplicates entries) x.duplicates y.duplicates
    (says_of key.Duplicates one) (says_of key.Duplicates two) in
    let with_paths =
    one_or true ReadsBool one_bool (at_key key.IncludePathDependencies entries) x.include_path_dependencies
    y.include_path_dependencies (says_of key.IncludePathDependencies one) (says_of key.IncludePathDependencies two) in
    let unused =
    one_or level.Deny (ReadsAs level_of) (one_as level_of) (at_key key.Unused entries) x.unused y.unused
    (says_of key.Unused one) (says_of key.Unused two) in
    λ i. record { duplicates = duplicates i; include_path_dependencies = with_paths i; unused = unused i }

one_workspace_table : ReadsOne (ReadsTable ReadsWorkspace)
one_workspace_table = alike_table ReadsWorkspace (λ x y. x ≡ y) one_workspace

one_spanned_level : ReadsOne (ReadsIfThere (ReadsSpanned (ReadsAs level_of)))
one_spanned_level v x y one two =
    one_optional (ReadsSpanned (ReadsAs level_of)) (one_spanned (ReadsAs level_of) (one_as level_of)) v x y one two

-- Two configurations are alike in what the rules see and in what clashes.
pub record ConfigsAlike (a b : Config) : Type 0 where
  pub multiple_versions : a.multiple_versions ≡ b.multiple_versions
  pub include_dev : a.multiple_versions_include_dev ≡ b.multiple_versions_include_dev
  pub highlight : a.highlight ≡ b.highlight
  pub deny : AllZip EntriesAlike a.deny b.deny
  pub allow : AllZip EntriesAlike a.allow b.allow
  pub allow_workspace : a.allow_workspace ≡ b.allow_workspace
  pub external_default : a.external_default_features ≡ b.external_default_features
  pub workspace_default : a.workspace_default_features ≡ b.workspace_default_features
  pub features : AllZip FeaturesAlike a.features b.features
  pub skip : AllZip EntriesAlike a.skip b.skip
  pub skip_tree : AllZip EntriesAlike a.skip_tree b.skip_tree
  pub wildcards : a.wildcards ≡ b.wildcards
  pub allow_wildcard_paths : a.allow_wildcard_paths ≡ b.allow_wildcard_paths
  pub workspace_dependencies : a.workspace_dependencies ≡ b.workspace_dependencies
  pub std_replacements : BothAlike StdAlike a.std_replacements b.std_replacements

pub configs_alike : ReadsAlike ReadsConfig ConfigsAlike
unfolding name_of
configs_alike entries a b one two = record {
  multiple_versions =
      one_or level.Warn (ReadsAs level_of) (one_as level_of) (at_key key.MultipleVersions entries) a.multiple_versions
      b.multiple_versions (says_of key.MultipleVersions one) (says_of key.MultipleVersions two);
  include_dev =
      one_or false ReadsBool one_bool (at_key key.MultipleVersionsIncludeDev entries) a.multiple_versions_include_dev
      b.multiple_versions_include_dev (says_of key.MultipleVersionsIncludeDev one)
      (says_of key.MultipleVersionsIncludeDev two);
  highlight =
      one_or highlight.All (ReadsAs highlight_of) (one_as highlight_of) (at_key key.Highlight entries) a.highlight
      b.highlight (says_of key.Highlight one) (says_of key.Highlight two);
  deny =
      alike_list_or ReadsBanEntry EntriesAlike ban_alike (at_key key.Deny entries) a.deny b.deny (says_of key.Deny one)
      (says_of key.Deny two);
  allow =
      alike_list_or ReadsReasoned EntriesAlike reasoned_alike (at_key key.Allow entries) a.allow b.allow
      (says_of key.Allow one) (says_of key.Allow two);
  allow_workspace =
      one_or false ReadsBool one_bool (at_key key.AllowWorkspace entries) a.allow_workspace b.allow_workspace
      (says_of key.AllowWorkspace one) (says_of key.AllowWorkspace two);
  external_default =
      one_spanned_level (at_key key.ExternalDefaultFeatures entries) a.external_default_features
      b.external_default_features (says_of key.ExternalDefaultFeatures one) (says_of key.ExternalDefaultFeatures two);
  workspace_default =
      one_spanned_level (at_key key.WorkspaceDefaultFeatures entries) a.workspace_default_features
      b.workspace_default_features (says_of key.WorkspaceDefaultFeatures one)
      (says_of key.WorkspaceDefaultFeatures two);
  features =
      alike_list_or ReadsCrateFeatures FeaturesAlike features_alike (at_key key.Features entries) a.features b.features
      (says_of key.Features one) (says_of key.Features two);
  skip =
      alike_list_or ReadsWaived EntriesAlike waived_alike (at_key key.Skip entries) a.skip b.skip
      (says_of key.Skip one) (says_of key.Skip two);
  skip_tree =
      alike_list_or ReadsTreeSkipEntry EntriesAlike tree_skip_alike (at_key key.SkipTree entries) a.skip_tree
      b.skip_tree (says_of key.SkipTree one) (says_of key.SkipTree two);
  wildcards =
      one_or level.Allow (ReadsAs level_of) (one_as level_of) (at_key key.Wildcards entries) a.wildcards b.wildcards
      (says_of key.Wildcards one) (says_of key.Wildcards two);
  allow_wildcard_paths =
      one_or false ReadsBool one_bool (at_key key.AllowWildcardPaths entries) a.allow_wildcard_paths
      b.allow_wildcard_paths (says_of key.AllowWildcardPaths one) (says_of key.AllowWildcardPaths two);
  workspace_dependencies =
      one_optional (ReadsTable ReadsWorkspace) one_workspace_table (at_key key.WorkspaceDependencies entries)
      a.workspace_dependencies b.workspace_dependencies (says_of key.WorkspaceDependencies one)
      (says_of key.WorkspaceDependencies two);
  std_replacements =
      alike_optional (ReadsTable ReadsStd) StdAlike std_alike (at_key key.StdReplacements entries) a.std_replacements
      b.std_replacements (says_of key.StdReplacements one) (says_of key.StdReplacements two);
}
