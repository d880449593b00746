use Rattle.deny_cfg_entries.specs.Table.{state_of}
use Rattle.deny_cfg_entries.proofs.KeyLaws.{◌▷◌, all_read, read_table_keys}
use Rattle.deny_cfg_tables.specs.Apart.{tree_skip-apart}
use Rattle.deny_cfg_tables.specs.Bans.{tree_skip_keys}
use Rattle.deny_cfg_tables.proofs.bans.cfg.tree_skip.TreeSkipExtendedFromTable.read_keys.Goals as goal

pub returns-clause-read : goal.returns-clause-read
returns-clause-read c = read_table_keys tree_skip_keys tree_skip-apart (state_of c.args.helper.now) (
    (c.in_ok-depth.ensures.next, c.in_ok-depth.ensures.read)
    ▷ (c.in_ok-reason.ensures.next, c.in_ok-reason.ensures.read)
    ▷ (c.in_ok-expires.ensures.next, c.in_ok-expires.ensures.read)
    ▷ all_read)
