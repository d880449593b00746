-- The table `bans`.
use Rattle.std.specs.Prelude.{List, [], ◌∷◌, false}
use Rattle.deny_base.specs.declared.level.LintLevel.TheVariants as level
use Rattle.deny_toml.specs.error.ConfigFault.{ConfigFault}
use Rattle.deny_toml.specs.value.Value.{Value}
use Rattle.deny_cfg_entries.specs.declared.policy_key.PolicyKey.TheVariants as key
use Rattle.deny_cfg_entries.specs.Reasons.{a_reasoned_entry}
use Rattle.deny_cfg_entries.specs.Spec.{a_spec}
use Rattle.deny_cfg_entries.specs.Table.{Entries, Field, ReadsKeys, TableKey, faults_of_table, fields_of, holds_or}
use Rattle.deny_cfg_entries.specs.Table.{may_hold}
use Rattle.deny_cfg_entries.specs.Waivers.{a_waived_entry}
use Rattle.deny_cfg_entries.specs.Words.{a_flag, a_level, a_list, a_word, spanned}
use Rattle.deny_cfg_tables.specs.declared.bans.cfg.config.Config.{Config}
use Rattle.deny_cfg_tables.specs.declared.bans.cfg.highlight.GraphHighlight.TheVariants as highlight
use Rattle.deny_cfg_tables.specs.Bans.{a_ban_entry, a_tree_skip_entry}
use Rattle.deny_cfg_tables.specs.Build.{a_build}
use Rattle.deny_cfg_tables.specs.Features.{a_feature_entry}
use Rattle.deny_cfg_tables.specs.Highlight.{highlight_of}
use Rattle.deny_cfg_tables.specs.StdReplacements.{a_std}
use Rattle.deny_cfg_tables.specs.Workspace.{a_workspace}

abbrev pub bans_keys : List (TableKey Config)
bans_keys =
    holds_or level.Warn key.MultipleVersions a_level (λ bans. bans.multiple_versions)
    ∷ holds_or false key.MultipleVersionsIncludeDev a_flag (λ bans. bans.multiple_versions_include_dev)
    ∷ holds_or highlight.All key.Highlight (a_word highlight_of) (λ bans. bans.highlight)
    ∷ holds_or [] key.Deny (a_list a_ban_entry) (λ bans. bans.deny)
    ∷ holds_or [] key.Allow (a_list a_reasoned_entry) (λ bans. bans.allow)
    ∷ holds_or false key.AllowWorkspace a_flag (λ bans. bans.allow_workspace)
    ∷ may_hold key.ExternalDefaultFeatures (spanned a_level) (λ bans. bans.external_default_features)
    ∷ may_hold key.WorkspaceDefaultFeatures (spanned a_level) (λ bans. bans.workspace_default_features)
    ∷ holds_or [] key.Features (a_list a_feature_entry) (λ bans. bans.features)
    ∷ holds_or [] key.Skip (a_list a_waived_entry) (λ bans. bans.skip)
    ∷ holds_or [] key.SkipTree (a_list a_tree_skip_entry) (λ bans. bans.skip_tree)
    ∷ holds_or level.Allow key.Wildcards a_level (λ bans. bans.wildcards)
    ∷ holds_or false key.AllowWildcardPaths a_flag (λ bans. bans.allow_wildcard_paths)
    ∷ may_hold key.AllowBuildScripts (spanned (a_list a_spec)) (λ bans. bans.allow_build_scripts)
    ∷ may_hold key.Build a_build (λ bans. bans.build)
    ∷ may_hold key.WorkspaceDependencies a_workspace (λ bans. bans.workspace_dependencies)
    ∷ may_hold key.StdReplacements a_std (λ bans. bans.std_replacements)
    ∷ []

abbrev pub bans_fields : List Field
bans_fields = fields_of bans_keys

abbrev pub ReadsConfig : Entries → Config → Type 0
ReadsConfig = ReadsKeys bans_keys

abbrev pub faults_of_config : Value → List ConfigFault
faults_of_config v = faults_of_table (λ entries. bans_fields) v
