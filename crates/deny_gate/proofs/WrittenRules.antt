-- The text of a policy writes each of its active rules.
use Rattle.std.proofs.Common.{◌≡◌, ◌∙◌, ◌==◌, ℕ, Bool, true, false, not, length, List, [], ◌∷◌, Option, None, Some}
use Rattle.std.proofs.Common.{refl, sym, ap, subst}
use Rattle.std.specs.Option.{option_map_or}
use Rattle.std.specs.Prelude.{◌||◌, codes, is_some, map, option_and_then, option_map, if◌then◌else◌}
use Rattle.std.specs.Str.{bytes_eq}
use Rattle.std.proofs.lemmas.Bool.{false≢true}
use Rattle.std.proofs.lemmas.List.{length-map}
use Rattle.deny_base_lists.proofs.Options.{is_some-option_map}
use Rattle.deny_base.specs.Code.{rule_of}
use Rattle.deny_base.specs.Rule.{Rule, OnCrates, OnWildcards, OnFeatures, OnDefaultFeatures, OnWorkspaceDependencies}
use Rattle.deny_base.specs.Rule.{OnStdReplacements, OnBuildScripts, OnPackageFiles, OnLicenses}
use Rattle.deny_base.specs.declared.code.DiagnosticCode.{DiagnosticCode}
use Rattle.deny_base.specs.declared.level.LintLevel.{LintLevel}
use Rattle.deny_base.specs.declared.level.LintLevel.TheVariants as level
use Rattle.deny_base.specs.declared.span.Span.{Span}
use Rattle.deny_base.specs.declared.span.Spanned.{Spanned}
use Rattle.deny_toml.specs.Calls.{array_in, below_name, table_in, text_in, value_at}
use Rattle.deny_toml.specs.Deserialize.{ReadsArray, ReadsEach}
use Rattle.deny_toml.specs.Value.{entries_in}
use Rattle.deny_toml.specs.value.Table.{Table}
use Rattle.deny_toml.specs.value.Value.{Value}
use Rattle.deny_spec_report.specs.BuildScripts.{is_active}
use Rattle.deny_cfg_entries.specs.PolicyKey.{name_of}
use Rattle.deny_cfg_entries.specs.Spec.{ReadsSpec}
use Rattle.deny_cfg_entries.specs.SpecView.{spec_view}
use Rattle.deny_cfg_entries.specs.Table.{Entries, ReadsIfThere, ReadsIn, ReadsOr, ReadsTable, at_key}
use Rattle.deny_cfg_entries.specs.Words.{ReadsAs, ReadsList, ReadsSpanned, level_of}
use Rattle.deny_cfg_entries.specs.declared.package_spec.PackageSpec.{PackageSpec}
use Rattle.deny_cfg_entries.specs.declared.policy_key.PolicyKey.TheVariants as key
use Rattle.deny_cfg_entries.proofs.KeyLaws.{says_of}
use Rattle.deny_cfg_tables.specs.Build.{ReadsBuild}
use Rattle.deny_cfg_tables.specs.Config.{ReadsConfig}
use Rattle.deny_cfg_tables.specs.Features.{ReadsCrateFeatures}
use Rattle.deny_cfg_tables.specs.Licenses.{ReadsLicenses}
use Rattle.deny_cfg_tables.specs.StdReplacements.{a_std}
use Rattle.deny_cfg_tables.specs.Workspace.{a_workspace}
use Rattle.deny_cfg_tables.specs.declared.bans.cfg.build.BuildConfig.{BuildConfig}
use Rattle.deny_cfg_tables.specs.declared.bans.cfg.config.Config.{Config}
use Rattle.deny_cfg_tables.specs.declared.bans.cfg.features.CrateFeatures.{CrateFeatures}
use Rattle.deny_cfg_tables.specs.declared.bans.cfg.std_replacements.StdReplacementConfig.{StdReplacementConfig}
use Rattle.deny_cfg_tables.specs.declared.bans.cfg.workspace.WorkspaceDepsConfig.{WorkspaceDepsConfig}
use Rattle.deny_cfg_tables.specs.declared.licenses.config.Config as licenses
use Rattle.deny_cfg_build.specs.Build.{IsBuildOf, build_by}
use Rattle.deny_cfg_build.specs.BuildingView.{building_view}
use Rattle.deny_cfg_build.specs.Globs.{OfBoth}
use Rattle.deny_cfg_build.specs.declared.valid.ValidBuildConfig.{ValidBuildConfig}
use Rattle.deny_cfg.specs.Current.{current_bans, current_build, current_licenses, current_std}
use Rattle.deny_cfg.specs.LicensingView.{licensing_of, licensing_view}
use Rattle.deny_cfg.specs.PolicyText.{IsPolicyOf, ReadsBans}
use Rattle.deny_cfg.specs.PolicyView.{building_of, feature_view, policy_view, replacing_view, sharing_view}
use Rattle.deny_cfg.specs.Valid.{build_of, features_of, older_key_of}
use Rattle.deny_cfg.specs.declared.bans.cfg.valid.ValidConfig.{ValidConfig}
use Rattle.deny_cfg.specs.declared.bans.cfg.valid.ValidKrateFeatures.{ValidKrateFeatures}
use Rattle.deny_cfg.specs.declared.policy.Policy as cfg
use Rattle.deny_cfg_entries.specs.declared.day.Day.{Day}
use Rattle.deny_spec.specs.Building.{Building}
use Rattle.deny_gate.specs.Headline.{WritesRule, denies, has_element, has_entry, has_key, is_deny, rule_is_written}
use Rattle.deny_gate.specs.Report.{policy_id}
use Rattle.deny_gate.proofs.Covered.{some_test}
use Rattle.deny_gate.proofs.ActiveRules.{denies_wildcards, has_features, lists_scripts, is_on, checks_files}
use Rattle.deny_gate.proofs.ActiveRules.{checks_rule}

there_if_read : {T : Type 0} (Reads : Value → T → Type 0) (v : Option Value) (x : Option T) → ReadsIfThere Reads v x
    → is_some x ≡ true → is_some v ≡ true
there_if_read Reads None x says some = absurd (false≢true (sym (ap (λ o. is_some o) says) ∙ some))
there_if_read Reads (Some v) x says some = refl

-- a list that is read from elements is as long as they are
elements_there : (vs : List Value) (read : List CrateFeatures) → ReadsEach ReadsCrateFeatures vs read
    → not (length read == 0) ≡ true → not (length vs == 0) ≡ true
elements_there [] [] each some = some
elements_there [] (f ∷ fs) each some = absurd each
elements_there (v ∷ vs) read each some = some_test (v ∷ vs) (λ none. cc none)

entry_there : (o : Option (List Value)) (read : List CrateFeatures) → ReadsArray ReadsCrateFeatures o read
    → not (length read == 0) ≡ true → option_map_or (λ (vs : List Value). not (length vs == 0)) o false ≡ true
entry_there None read each some = absurd each
entry_there (Some vs) read each some = elements_there vs read each some

features_there : (o : Option Value) (read : List CrateFeatures) → ReadsOr [] (ReadsList ReadsCrateFeatures) o read
    → not (length read == 0) ≡ true → option_map_or has_element o false ≡ true
features_there None read says some =
    absurd (false≢true (sym (ap (λ (fs : List CrateFeatures). not (length fs == 0)) says) ∙ some))
features_there (Some v) read says some = entry_there (array_in v) read says some

-- either of two tests passes where either of two others does, each of which implies one of them
or_both : (a b c d : Bool) → (a ≡ true → c ≡ true) → (b ≡ true → d ≡ true) → (a || b) ≡ true → (c || d) ≡ true
or_both a b true d left right is = refl
or_both true b false d left right is = absurd (false≢true (left refl))
or_both false b false d left right is = right is

-- a rule that the entries of the table `bans` write, the table writes; without entries none is written
module _ (config : Config) (writes : Entries → Bool) (in_table : Option Table → Bool)
    (same : (t : Table) → in_table (Some t) ≡ writes (entries_in t)) (nothing : writes [] ≡ false)
    (each : (entries : Entries) → ReadsConfig entries config → writes entries ≡ true) where
  by_table : (o : Option Table) → ReadsIn ReadsConfig o config → in_table o ≡ true
  by_table None reads = absurd reads
  by_table (Some t) reads = same t ∙ each (entries_in t) reads

  by_bans : (o : Option Value) → ReadsBans o config → option_map_or (λ v. in_table (table_in v)) o false ≡ true
  by_bans None reads = absurd (false≢true (sym nothing ∙ each [] reads))
  by_bans (Some v) reads = by_table (table_in v) reads

-- the value at a key of the table
abbrev key_in : List ℕ → Option Table → Option Value
key_in name o = option_and_then (λ t. value_at name (entries_in t)) o

features_written : (config : Config) (o : Option Value) → ReadsBans o config → not (length config.features == 0) ≡ true
    → option_map_or (has_entry (codes "features")) o false ≡ true
unfolding name_of
features_written config o reads some =
    by_bans config (λ entries. option_map_or has_element (value_at (codes "features") entries) false)
    (λ t. option_map_or has_element (key_in (codes "features") t) false) (λ t. refl) refl
    (λ entries keys. features_there (at_key key.Features entries) config.features (says_of key.Features keys) some)
    o reads

levels_written : (config : Config) (o : Option Value) → ReadsBans o config
    → (is_some config.workspace_default_features || is_some config.external_default_features) ≡ true
    → option_map_or
    (λ bans. has_key (codes "workspace-default-features") bans || has_key (codes "external-default-features") bans)
    o false ≡ true
unfolding name_of
levels_written config o reads some =
    by_bans config
    (λ entries. is_some (value_at (codes "workspace-default-features") entries)
    || is_some (value_at (codes "external-default-features") entries))
    (λ t. is_some (key_in (codes "workspace-default-features") t)
    || is_some (key_in (codes "external-default-features") t)) (λ t. refl) refl
    (λ entries keys. or_both (is_some config.workspace_default_features) (is_some config.external_default_features)
    (is_some (at_key key.WorkspaceDefaultFeatures entries)) (is_some (at_key key.ExternalDefaultFeatures entries))
    (there_if_read (ReadsSpanned (ReadsAs level_of)) (at_key key.WorkspaceDefaultFeatures entries)
    config.workspace_default_features (says_of key.WorkspaceDefaultFeatures keys))
    (there_if_read (ReadsSpanned (ReadsAs level_of)) (at_key key.ExternalDefaultFeatures entries)
    config.external_default_features (says_of key.ExternalDefaultFeatures keys)) some)
    o reads

-- the level `deny` is read from its word
deny_of : (allowed warns denied : Bool)
    → (if allowed then Some level.Allow else if warns then Some level.Warn
    else if denied then Some level.Deny else None) ≡ Some level.Deny → denied ≡ true
deny_of true warns denied is = absurd (cc is)
deny_of false true denied is = absurd (cc is)
deny_of false false true is = refl
deny_of false false false is = absurd (cc is)

deny_word : (text : List ℕ) → level_of text ≡ Some level.Deny → bytes_eq text (codes "deny") ≡ true
unfolding level_of
deny_word text is = deny_of (bytes_eq text (codes "allow")) (bytes_eq text (codes "warn"))
    (bytes_eq text (codes "deny")) is

deny_read : (o : Option (List ℕ)) → option_and_then level_of o ≡ Some level.Deny
    → option_map_or (λ text. bytes_eq text (codes "deny")) o false ≡ true
deny_read None is = absurd (cc is)
deny_read (Some text) is = deny_word text is

-- a level that is read and is not the default is written
deny_there : (o : Option Value) (l : LintLevel) → ReadsOr level.Allow (ReadsAs level_of) o l → denies_wildcards l ≡ true
    → option_map_or is_deny o false ≡ true
deny_there None l says denied =
    absurd (false≢true (sym (ap denies_wildcards says) ∙ denied))
deny_there (Some v) level.Allow says denied = absurd (false≢true denied)
deny_there (Some v) level.Warn says denied = absurd (false≢true denied)
deny_there (Some v) level.Deny says denied = deny_read (text_in v) says

wildcards_written : (config : Config) (o : Option Value) → ReadsBans o config → denies_wildcards config.wildcards ≡ true
    → option_map_or (denies (codes "wildcards")) o false ≡ true
unfolding name_of
wildcards_written config o reads denied =
    by_bans config (λ entries. option_map_or is_deny (value_at (codes "wildcards") entries) false)
    (λ t. option_map_or is_deny (key_in (codes "wildcards") t) false) (λ t. refl) refl
    (λ entries keys. deny_there (at_key key.Wildcards entries) config.wildcards (says_of key.Wildcards keys) denied)
    o reads

sharing_written : (config : Config) (o : Option Value) → ReadsBans o config
    → is_some config.workspace_dependencies ≡ true
    → option_map_or (has_key (codes "workspace-dependencies")) o false ≡ true
unfolding name_of
sharing_written config o reads some =
    by_bans config (λ entries. is_some (value_at (codes "workspace-dependencies") entries))
    (λ t. is_some (key_in (codes "workspace-dependencies") t)) (λ t. refl) refl
    (λ entries keys. there_if_read a_workspace.Reads (at_key key.WorkspaceDependencies entries)
    config.workspace_dependencies (says_of key.WorkspaceDependencies keys) some)
    o reads

std_written : (config : Config) (o : Option Value) → ReadsBans o config → is_some config.std_replacements ≡ true
    → option_map_or (has_key (codes "std-replacements")) o false ≡ true
unfolding name_of
std_written config o reads some =
    by_bans config (λ entries. is_some (value_at (codes "std-replacements") entries))
    (λ t. is_some (key_in (codes "std-replacements") t)) (λ t. refl) refl
    (λ entries keys. there_if_read a_std.Reads (at_key key.StdReplacements entries) config.std_replacements
    (says_of key.StdReplacements keys) some)
    o reads

-- the table `build`, and the list of crates that may have a script: its own, or the older key where there is no table
abbrev has_scripts : Option BuildConfig → Bool
has_scripts o = option_map_or (λ b. is_some b.allow_build_scripts) o false

abbrev has_files : Option BuildConfig → Bool
has_files o = option_map_or (λ b. is_active b.executables) o false

own_list : (v : Value) (b : BuildConfig) → ReadsTable ReadsBuild v b → is_some b.allow_build_scripts ≡ true
    → has_key (codes "allow-build-scripts") v ≡ true
unfolding name_of
own_list v b reads some = by (table_in v) reads
  where
    by : (o : Option Table) → ReadsIn ReadsBuild o b → is_some (key_in (codes "allow-build-scripts") o) ≡ true
    by None reads = absurd reads
    by (Some t) reads = there_if_read (ReadsList ReadsSpec) (at_key key.AllowBuildScripts (entries_in t))
        b.allow_build_scripts (says_of key.AllowBuildScripts reads) some

older_list : (scripts : Option (Spanned (List PackageSpec))) → has_scripts (build_by None scripts) ≡ true
    → is_some scripts ≡ true
older_list None some = absurd (false≢true some)
older_list (Some list) some = refl

scripts_there : (v w : Option Value) (build : Option BuildConfig) (scripts : Option (Spanned (List PackageSpec)))
    → ReadsIfThere (ReadsTable ReadsBuild) v build → ReadsIfThere (ReadsSpanned (ReadsList ReadsSpec)) w scripts
    → has_scripts (build_by build scripts) ≡ true
    → option_map_or (has_key (codes "allow-build-scripts")) v (is_some w) ≡ true
scripts_there None w build scripts none reads some =
    there_if_read (ReadsSpanned (ReadsList ReadsSpec)) w scripts reads
    (older_list scripts (ap (λ (o : Option BuildConfig). has_scripts (build_by o scripts)) (sym none) ∙ some))
scripts_there (Some v) w None scripts says reads some = absurd says
scripts_there (Some v) w (Some b) scripts says reads some = own_list v b says some

older_files : (scripts : Option (Spanned (List PackageSpec))) → has_files (build_by None scripts) ≡ true → ⊥
older_files None active = false≢true active
older_files (Some list) active = false≢true active

files_there : (v : Option Value) (build : Option BuildConfig) (scripts : Option (Spanned (List PackageSpec)))
    → ReadsIfThere (ReadsTable ReadsBuild) v build → has_files (build_by build scripts) ≡ true → is_some v ≡ true
files_there None build scripts none active = absurd (older_files scripts
    (ap (λ (o : Option BuildConfig). has_files (build_by o scripts)) (sym none) ∙ active))
files_there (Some v) build scripts says active = refl

scripts_written : (config : Config) (o : Option Value) → ReadsBans o config → has_scripts (build_of config) ≡ true
    → option_map_or
    (λ bans. option_map_or (has_key (codes "allow-build-scripts")) (below_name (codes "build") bans)
    (has_key (codes "allow-build-scripts") bans))
    o false ≡ true
unfolding name_of
scripts_written config o reads some =
    by_bans config
    (λ entries. option_map_or (has_key (codes "allow-build-scripts")) (value_at (codes "build") entries)
    (is_some (value_at (codes "allow-build-scripts") entries)))
    (λ t. option_map_or (has_key (codes "allow-build-scripts")) (key_in (codes "build") t)
    (is_some (key_in (codes "allow-build-scripts") t))) (λ t. refl) refl
    (λ entries keys. scripts_there (at_key key.Build entries) (at_key key.AllowBuildScripts entries) config.build
    config.allow_build_scripts (says_of key.Build keys) (says_of key.AllowBuildScripts keys) some)
    o reads

files_written : (config : Config) (o : Option Value) → ReadsBans o config → has_files (build_of config) ≡ true
    → option_map_or (has_key (codes "build")) o false ≡ true
unfolding name_of
files_written config o reads active =
    by_bans config (λ entries. is_some (value_at (codes "build") entries))
    (λ t. is_some (key_in (codes "build") t)) (λ t. refl) refl
    (λ entries keys. files_there (at_key key.Build entries) config.build config.allow_build_scripts
    (says_of key.Build keys) active)
    o reads

-- the list of scripts that rules see is that of the table
scripts_seen : (next : ℕ) (older : Option Span) (o : Option BuildConfig) (valid : Option ValidBuildConfig)
    → OfBoth (λ build. IsBuildOf build next older) o valid
    → option_map_or lists_scripts (option_map building_view valid) false ≡ true → has_scripts o ≡ true
scripts_seen next older None None both active = active
scripts_seen next older None (Some v) both active = absurd both
scripts_seen next older (Some b) None both active = absurd both
scripts_seen next older (Some b) (Some v) both active =
    ap (λ (o : Option (List PackageSpec)). is_some o) (sym both.allow_build_scripts)
    ∙ (sym (seen_list v.allow_build_scripts) ∙ active)
  where
    seen_list : (o : Option (List PackageSpec)) → is_some (option_map (map spec_view) o) ≡ is_some o
    seen_list None = refl
    seen_list (Some list) = refl

files_seen : (next : ℕ) (older : Option Span) (o : Option BuildConfig) (valid : Option ValidBuildConfig)
    → OfBoth (λ build. IsBuildOf build next older) o valid
    → option_map_or checks_files (option_map building_view valid) false ≡ true → has_files o ≡ true
files_seen next older None None both active = active
files_seen next older None (Some v) both active = absurd both
files_seen next older (Some b) None both active = absurd both
files_seen next older (Some b) (Some v) both active =
    ap (λ (l : LintLevel). is_active l) (sym both.executables) ∙ active

-- ---- the entries that count write no less

std_current : (today : Option Day) (o : Option StdReplacementConfig)
    → is_some (option_map replacing_view (option_map (current_std today) o)) ≡ is_some (option_map replacing_view o)
std_current today None = refl
std_current today (Some std) = refl

build_current : (test : Building → Bool) → ((today : Option Day) (v : ValidBuildConfig)
    → test (building_view (current_build today v)) ≡ test (building_view v)) → (today : Option Day)
    (o : Option ValidBuildConfig)
    → option_map_or test (option_map building_view (option_map (current_build today) o)) false
    ≡ option_map_or test (option_map building_view o) false
build_current test same today None = refl
build_current test same today (Some v) = same today v

licences_current : (today : Option Day) (o : Option licenses.Config)
    → is_some (licensing_of (option_map (current_licenses today) o)) ≡ is_some (licensing_of o)
licences_current today None = refl
licences_current today (Some config) = refl

-- the same rules are active by what counts on a day as by what is written
current_checks : (today : Option Day) (w : ValidConfig) (o : Option licenses.Config) (rule : Rule)
    → checks_rule rule (policy_view (current_bans today w)) (licensing_of (option_map (current_licenses today) o))
    (building_of (current_bans today w))
    ≡ checks_rule rule (policy_view w) (licensing_of o) (building_of w)
unfolding current_bans
current_checks today w o OnCrates = refl
current_checks today w o OnWildcards = refl
current_checks today w o OnFeatures = refl
current_checks today w o OnDefaultFeatures = refl
current_checks today w o OnWorkspaceDependencies = refl
current_checks today w o OnStdReplacements = std_current today w.std_replacements
current_checks today w o OnBuildScripts = build_current lists_scripts (λ day v. refl) today w.build
current_checks today w o OnPackageFiles = build_current checks_files (λ day v. refl) today w.build
current_checks today w o OnLicenses = licences_current today o

-- ---- the policy that rules see is the one that was read

module _ (today : Option Day) (text : List ℕ) (said : cfg.Policy) (is : IsPolicyOf today text policy_id said) where
  abbrev config : Config
  config = is.config

  abbrev tree : Value
  tree = is.says.tree

  -- what the text writes, of which the policy has what counts
  abbrev bans : ValidConfig
  bans = is.written

  features_read : has_features (policy_view bans) ≡ true → not (length config.features == 0) ≡ true
  features_read some =
      let valid = is.valid in
      let lengths : length (map feature_view bans.features) ≡ length config.features =
      length-map bans.features feature_view
      ∙ (ap (λ (fs : List ValidKrateFeatures). length fs) valid.features ∙ length-map config.features features_of) in
      subst (λ (n : ℕ). not (n == 0) ≡ true) lengths some

  levels_read : (is_some bans.workspace_default_features || is_some bans.external_default_features) ≡ true
      → (is_some config.workspace_default_features || is_some config.external_default_features) ≡ true
  levels_read some =
      let valid = is.valid in
      subst (λ (o : Option (Spanned LintLevel)). (is_some config.workspace_default_features || is_some o) ≡ true)
      valid.external_default_features
      (subst (λ (o : Option (Spanned LintLevel)). (is_some o || is_some bans.external_default_features) ≡ true)
      valid.workspace_default_features some)

  std_read : is_some (option_map replacing_view bans.std_replacements) ≡ true
      → is_some config.std_replacements ≡ true
  std_read some = ap (λ (o : Option StdReplacementConfig). is_some o) (sym is.valid.std_replacements)
      ∙ (sym (is_some-option_map replacing_view bans.std_replacements) ∙ some)

  wildcards_read : denies_wildcards bans.wildcards ≡ true → denies_wildcards config.wildcards ≡ true
  wildcards_read denied =
      subst (λ (l : LintLevel). denies_wildcards l ≡ true) is.valid.wildcards denied

  sharing_read : is_some (option_map sharing_view bans.workspace_dependencies) ≡ true
      → is_some config.workspace_dependencies ≡ true
  sharing_read some = ap (λ (o : Option WorkspaceDepsConfig). is_some o)
      (sym is.valid.workspace_dependencies)
      ∙ (sym (is_some-option_map sharing_view bans.workspace_dependencies) ∙ some)

  files_said : option_map_or checks_files (building_of bans) false ≡ true
      → option_map_or (has_key (codes "build")) (below_name (codes "bans") tree) false ≡ true
  files_said active = files_written config (below_name (codes "bans") tree) is.says.reads
      (files_seen _ (older_key_of config) (build_of config) bans.build is.valid.build active)

  licenses_there : is_some (licensing_of is.licensing) ≡ true → has_key (codes "licenses") tree ≡ true
  licenses_there some = there_if_read (ReadsTable ReadsLicenses) (below_name (codes "licenses") tree) is.licensing
      is.says.reads_licenses (sym (is_some-option_map licensing_view is.licensing) ∙ some)

  abbrev said_checks : Rule → Bool
  said_checks rule = checks_rule rule (policy_view bans) (licensing_of is.licensing) (building_of bans)

  by_rule : (rule : Rule) → said_checks rule ≡ true → rule_is_written rule tree ≡ true
  unfolding rule_is_written
  by_rule OnCrates active = absurd (false≢true active)
  by_rule OnWildcards active =
      wildcards_written config (below_name (codes "bans") tree) is.says.reads (wildcards_read active)
  by_rule OnFeatures active =
      features_written config (below_name (codes "bans") tree) is.says.reads (features_read active)
  by_rule OnDefaultFeatures active =
      levels_written config (below_name (codes "bans") tree) is.says.reads (levels_read active)
  by_rule OnWorkspaceDependencies active =
      sharing_written config (below_name (codes "bans") tree) is.says.reads (sharing_read active)
  by_rule OnStdReplacements active =
      std_written config (below_name (codes "bans") tree) is.says.reads (std_read active)
  by_rule OnBuildScripts active = scripts_written config (below_name (codes "bans") tree) is.says.reads
      (scripts_seen _ (older_key_of config) (build_of config) bans.build is.valid.build active)
  by_rule OnPackageFiles active = files_said active
  by_rule OnLicenses active = licenses_there active

  -- a rule that is active by what counts is active by what is written
  said_active : (rule : Rule)
      → checks_rule rule (policy_view said.bans) (licensing_of said.licenses) (building_of said.bans) ≡ true
      → said_checks rule ≡ true
  said_active rule active =
      sym (current_checks today bans is.licensing rule)
      ∙ (ap (λ (o : Option licenses.Config). checks_rule rule (policy_view (current_bans today bans)) (licensing_of o)
      (building_of (current_bans today bans))) (sym is.current.licenses)
      ∙ (ap (λ (b : ValidConfig). checks_rule rule (policy_view b) (licensing_of said.licenses) (building_of b))
      (sym is.current.bans) ∙ active))

  written : (o : Option Rule) → option_map_or (λ rule. checks_rule rule (policy_view said.bans)
      (licensing_of said.licenses) (building_of said.bans)) o false ≡ true
      → option_map_or (λ rule. rule_is_written rule tree) o false ≡ true
  written None active = absurd (false≢true active)
  written (Some rule) active = by_rule rule (said_active rule active)

  pub rule_written : (d : DiagnosticCode)
      → is_on d (policy_view said.bans) (licensing_of said.licenses) (building_of said.bans) ≡ true
      → WritesRule text d
  rule_written d active = record {
    tree = tree;
    is_tree = is.says.is_tree;
    written = written (rule_of d) active;
  }
