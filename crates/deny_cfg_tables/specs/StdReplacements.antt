-- The table `std-replacements`.
use Rattle.std.specs.Prelude.{List, [], ◌∷◌}
use Rattle.semver.specs.Identifiers.{parts_of}
use Rattle.semver.specs.declared.Version.{Version}
use Rattle.deny_base.specs.declared.level.LintLevel.TheVariants as level
use Rattle.deny_toml.specs.error.ConfigFault.{ConfigFault}
use Rattle.deny_toml.specs.value.Value.{Value}
use Rattle.deny_cfg_entries.specs.declared.policy_key.PolicyKey.TheVariants as key
use Rattle.deny_cfg_entries.specs.declared.scope.Scope.TheVariants as word
use Rattle.deny_cfg_entries.specs.RustVersion.{rust_version_in}
use Rattle.deny_cfg_entries.specs.Table.{Entries, Field, ReadsKeys, ReadsTable, TableKey, faults_of_table, fields_of}
use Rattle.deny_cfg_entries.specs.Table.{holds_or, may_hold}
use Rattle.deny_cfg_entries.specs.Waivers.{a_waived_entry}
use Rattle.deny_cfg_entries.specs.Words.{Kind, ReadsAs, a_level, a_list, a_scope, faults_as}
use Rattle.deny_cfg_tables.specs.declared.bans.cfg.std_replacements.StdReplacementConfig.{StdReplacementConfig}

abbrev pub ReadsRustVersion : Value → Version → Type 0
ReadsRustVersion v version = ReadsAs rust_version_in v (parts_of version)

abbrev pub a_rust_version : Kind Version
a_rust_version = record { faults_of = faults_as rust_version_in; Reads = ReadsRustVersion }

abbrev pub std_keys : List (TableKey StdReplacementConfig)
std_keys =
    holds_or word.Workspace key.Scope a_scope (λ std. std.scope)
    ∷ holds_or level.Deny key.Level a_level (λ std. std.level)
    ∷ may_hold key.RustVersion a_rust_version (λ std. std.rust_version)
    ∷ holds_or [] key.Ignore (a_list a_waived_entry) (λ std. std.ignore)
    ∷ holds_or word.None key.IgnoreRustVersion a_scope (λ std. std.ignore_rust_version)
    ∷ []

abbrev pub std_fields : List Field
std_fields = fields_of std_keys

abbrev pub ReadsStd : Entries → StdReplacementConfig → Type 0
ReadsStd = ReadsKeys std_keys

abbrev pub faults_of_std : Value → List ConfigFault
faults_of_std v = faults_of_table (λ entries. std_fields) v

abbrev pub a_std : Kind StdReplacementConfig
a_std = record { faults_of = faults_of_std; Reads = ReadsTable ReadsStd }
