-- The table `workspace-dependencies`.
use Rattle.std.specs.Prelude.{true, List, [], ◌∷◌}
use Rattle.deny_base.specs.declared.level.LintLevel.TheVariants as level
use Rattle.deny_toml.specs.error.ConfigFault.{ConfigFault}
use Rattle.deny_toml.specs.value.Value.{Value}
use Rattle.deny_cfg_entries.specs.declared.policy_key.PolicyKey.TheVariants as key
use Rattle.deny_cfg_entries.specs.Table.{Entries, Field, ReadsKeys, ReadsTable, TableKey, faults_of_table, fields_of}
use Rattle.deny_cfg_entries.specs.Table.{holds_or}
use Rattle.deny_cfg_entries.specs.Words.{Kind, a_flag, a_level}
use Rattle.deny_cfg_tables.specs.declared.bans.cfg.workspace.WorkspaceDepsConfig.{WorkspaceDepsConfig}

abbrev pub workspace_keys : List (TableKey WorkspaceDepsConfig)
workspace_keys =
    holds_or level.Deny key.Duplicates a_level (λ shared. shared.duplicates)
    ∷ holds_or true key.IncludePathDependencies a_flag (λ shared. shared.include_path_dependencies)
    ∷ holds_or level.Deny key.Unused a_level (λ shared. shared.unused)
    ∷ []

abbrev pub workspace_fields : List Field
workspace_fields = fields_of workspace_keys

abbrev pub ReadsWorkspace : Entries → WorkspaceDepsConfig → Type 0
ReadsWorkspace = ReadsKeys workspace_keys

abbrev pub faults_of_workspace : Value → List ConfigFault
faults_of_workspace v = faults_of_table (λ entries. workspace_fields) v

abbrev pub a_workspace : Kind WorkspaceDepsConfig
a_workspace = record { faults_of = faults_of_workspace; Reads = ReadsTable ReadsWorkspace }
