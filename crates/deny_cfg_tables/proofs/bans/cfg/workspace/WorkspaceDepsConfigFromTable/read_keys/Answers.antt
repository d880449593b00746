use Rattle.deny_cfg_entries.specs.Table.{state_of}
use Rattle.deny_cfg_entries.proofs.KeyLaws.{◌▷◌, all_read, read_table_keys}
use Rattle.deny_cfg_tables.specs.Apart.{workspace-apart}
use Rattle.deny_cfg_tables.specs.Workspace.{workspace_keys}
use Rattle.deny_cfg_tables.proofs.bans.cfg.workspace.WorkspaceDepsConfigFromTable.read_keys.Goals as goal

pub returns-clause-read : goal.returns-clause-read
returns-clause-read c = read_table_keys workspace_keys workspace-apart (state_of c.args.helper.now) (
    (c.in_ok-duplicates.ensures.next, c.in_ok-duplicates.ensures.read)
    ▷ (c.in_ok-include_path_dependencies.ensures.next, c.in_ok-include_path_dependencies.ensures.read)
    ▷ (c.in_ok-unused.ensures.next, c.in_ok-unused.ensures.read)
    ▷ all_read)
