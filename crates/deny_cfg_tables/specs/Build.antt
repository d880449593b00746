-- The table `build`, and its entries of `bypass`.
use Rattle.std.specs.Prelude.{false, List, [], ◌∷◌}
use Rattle.deny_base.specs.declared.level.LintLevel.TheVariants as level
use Rattle.deny_toml.specs.error.ConfigFault.{ConfigFault}
use Rattle.deny_toml.specs.value.Value.{Value}
use Rattle.deny_cfg_entries.specs.declared.policy_key.PolicyKey.TheVariants as key
use Rattle.deny_cfg_entries.specs.Entry.{ReadsEntryKeys, entry_fields}
use Rattle.deny_cfg_entries.specs.Spec.{a_spec}
use Rattle.deny_cfg_entries.specs.Table.{Entries, Field, ReadsKeys, ReadsTable, TableKey, a_table, faults_of_table}
use Rattle.deny_cfg_entries.specs.Table.{fields_of, holds_or, may_hold, must_hold}
use Rattle.deny_cfg_entries.specs.Waivers.{an_expiry}
use Rattle.deny_cfg_entries.specs.Words.{Kind, ReadsAs, a_flag, a_level, a_list, a_text, faults_as, some_texts, spanned}
use Rattle.deny_cfg_tables.specs.declared.bans.cfg.build.BuildConfig.{BuildConfig}
use Rattle.deny_cfg_tables.specs.declared.bans.cfg.bypass.Bypass.{Bypass}
use Rattle.deny_cfg_tables.specs.declared.bans.cfg.bypass.BypassKeys.{BypassKeys}
use Rattle.deny_cfg_tables.specs.declared.bans.cfg.bypass.BypassPath.{BypassPath}
use Rattle.deny_cfg_tables.specs.declared.bans.cfg.checksum.Checksum.{Checksum}
use Rattle.deny_cfg_tables.specs.Checksum.{checksum_of}

abbrev pub ReadsChecksum : Value → Checksum → Type 0
ReadsChecksum v checksum = ReadsAs checksum_of v checksum.0

abbrev pub a_checksum : Kind Checksum
a_checksum = record { faults_of = faults_as checksum_of; Reads = ReadsChecksum }

-- an entry of `allow` in an entry of `bypass`
abbrev pub bypass_path_keys : List (TableKey BypassPath)
bypass_path_keys =
    must_hold key.Path (spanned a_text) (λ file. file.path)
    ∷ may_hold key.Checksum (spanned a_checksum) (λ file. file.checksum)
    ∷ []

abbrev pub bypass_path_fields : List Field
bypass_path_fields = fields_of bypass_path_keys

abbrev pub ReadsBypassPath : Entries → BypassPath → Type 0
ReadsBypassPath = ReadsKeys bypass_path_keys

abbrev pub faults_of_bypass_path : Value → List ConfigFault
faults_of_bypass_path v = faults_of_table (λ entries. bypass_path_fields) v

-- what an entry of `bypass` gives beside its spec
abbrev pub bypass_keys : List (TableKey BypassKeys)
bypass_keys =
    may_hold key.BuildScript (spanned a_checksum) (λ keys. keys.build_script)
    ∷ holds_or [] key.RequiredFeatures some_texts (λ keys. keys.required_features)
    ∷ may_hold key.AllowGlobs some_texts (λ keys. keys.allow_globs)
    ∷ holds_or [] key.Allow (a_list (a_table bypass_path_keys)) (λ keys. keys.allow)
    ∷ may_hold key.Expires (spanned an_expiry) (λ keys. keys.expires)
    ∷ []

abbrev pub bypass_fields : List Field
bypass_fields = fields_of bypass_keys

abbrev pub ReadsBypassKeys : Entries → BypassKeys → Type 0
ReadsBypassKeys = ReadsKeys bypass_keys

abbrev pub keys_in : Bypass → BypassKeys
keys_in bypass = record {
  build_script = bypass.build_script;
  required_features = bypass.required_features;
  allow_globs = bypass.allow_globs;
  allow = bypass.allow;
  expires = bypass.expires;
}

abbrev pub faults_of_bypass : Value → List ConfigFault
faults_of_bypass v = faults_of_table (entry_fields bypass_fields) v

abbrev pub ReadsBypass : Value → Bypass → Type 0
ReadsBypass v bypass =
    ReadsTable (λ entries (read : Bypass). ReadsEntryKeys ReadsBypassKeys entries read.spec (keys_in read)) v bypass

abbrev pub a_bypass : Kind Bypass
a_bypass = record { faults_of = faults_of_bypass; Reads = ReadsBypass }

abbrev pub build_keys : List (TableKey BuildConfig)
build_keys =
    may_hold key.AllowBuildScripts (a_list a_spec) (λ build. build.allow_build_scripts)
    ∷ holds_or level.Deny key.Executables a_level (λ build. build.executables)
    ∷ holds_or level.Allow key.Interpreted a_level (λ build. build.interpreted)
    ∷ may_hold key.ScriptExtensions some_texts (λ build. build.script_extensions)
    ∷ may_hold key.Bypass (a_list a_bypass) (λ build. build.bypass)
    ∷ holds_or false key.EnableBuiltinGlobs a_flag (λ build. build.enable_builtin_globs)
    ∷ holds_or false key.IncludeDependencies a_flag (λ build. build.include_dependencies)
    ∷ holds_or false key.IncludeWorkspace a_flag (λ build. build.include_workspace)
    ∷ holds_or false key.IncludeArchives a_flag (λ build. build.include_archives)
    ∷ []

abbrev pub build_fields : List Field
build_fields = fields_of build_keys

abbrev pub ReadsBuild : Entries → BuildConfig → Type 0
ReadsBuild = ReadsKeys build_keys

abbrev pub faults_of_build : Value → List ConfigFault
faults_of_build v = faults_of_table (λ entries. build_fields) v

abbrev pub a_build : Kind BuildConfig
a_build = record { faults_of = faults_of_build; Reads = ReadsTable ReadsBuild }
