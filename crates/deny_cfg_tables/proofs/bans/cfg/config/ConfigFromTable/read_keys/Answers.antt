use Rattle.deny_cfg_entries.specs.Table.{state_of}
use Rattle.deny_cfg_entries.proofs.KeyLaws.{◌▷◌, all_read, read_table_keys}
use Rattle.deny_cfg_tables.specs.Apart.{bans-apart}
use Rattle.deny_cfg_tables.specs.Config.{bans_fields, bans_keys}
use Rattle.deny_cfg_tables.proofs.Chain.{◌▸◌, ended, ends}
use Rattle.deny_cfg_tables.proofs.bans.cfg.config.ConfigFromTable.read_keys.Goals as goal

pub returns-clause-read : goal.returns-clause-read
returns-clause-read c = read_table_keys bans_keys bans-apart (state_of c.args.helper.now) (
    (c.in_ok-multiple_versions.ensures.next, c.in_ok-multiple_versions.ensures.read)
    ▷ (c.in_ok-multiple_versions_include_dev.ensures.next, c.in_ok-multiple_versions_include_dev.ensures.read)
    ▷ (c.in_ok-highlight.ensures.next, c.in_ok-highlight.ensures.read)
    ▷ (c.in_ok-deny.ensures.next, c.in_ok-deny.ensures.read)
    ▷ (c.in_ok-allow.ensures.next, c.in_ok-allow.ensures.read)
    ▷ (c.in_ok-allow_workspace.ensures.next, c.in_ok-allow_workspace.ensures.read)
    ▷ (c.in_ok-external_default_features.ensures.next, c.in_ok-external_default_features.ensures.read)
    ▷ (c.in_ok-workspace_default_features.ensures.next, c.in_ok-workspace_default_features.ensures.read)
    ▷ (c.in_ok-features.ensures.next, c.in_ok-features.ensures.read)
    ▷ (c.in_ok-skip.ensures.next, c.in_ok-skip.ensures.read)
    ▷ (c.in_ok-skip_tree.ensures.next, c.in_ok-skip_tree.ensures.read)
    ▷ (c.in_ok-wildcards.ensures.next, c.in_ok-wildcards.ensures.read)
    ▷ (c.in_ok-allow_wildcard_paths.ensures.next, c.in_ok-allow_wildcard_paths.ensures.read)
    ▷ (c.in_ok-allow_build_scripts.ensures.next, c.in_ok-allow_build_scripts.ensures.read)
    ▷ (c.in_ok-build.ensures.next, c.in_ok-build.ensures.read)
    ▷ (c.in_ok-workspace_dependencies.ensures.next, c.in_ok-workspace_dependencies.ensures.read)
    ▷ (c.in_ok-std_replacements.ensures.next, c.in_ok-std_replacements.ensures.read)
    ▷ all_read)

pub returns-clause-next : goal.returns-clause-next
returns-clause-next c = ends bans_fields (state_of c.args.helper.now) _ (
    c.in_ok-multiple_versions.ensures.next
    ▸ c.in_ok-multiple_versions_include_dev.ensures.next
    ▸ c.in_ok-highlight.ensures.next
    ▸ c.in_ok-deny.ensures.next
    ▸ c.in_ok-allow.ensures.next
    ▸ c.in_ok-allow_workspace.ensures.next
    ▸ c.in_ok-external_default_features.ensures.next
    ▸ c.in_ok-workspace_default_features.ensures.next
    ▸ c.in_ok-features.ensures.next
    ▸ c.in_ok-skip.ensures.next
    ▸ c.in_ok-skip_tree.ensures.next
    ▸ c.in_ok-wildcards.ensures.next
    ▸ c.in_ok-allow_wildcard_paths.ensures.next
    ▸ c.in_ok-allow_build_scripts.ensures.next
    ▸ c.in_ok-build.ensures.next
    ▸ c.in_ok-workspace_dependencies.ensures.next
    ▸ c.in_ok-std_replacements.ensures.next
    ▸ ended)
