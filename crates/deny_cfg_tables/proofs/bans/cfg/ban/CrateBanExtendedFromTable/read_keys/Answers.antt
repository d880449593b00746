use Rattle.deny_cfg_entries.specs.Table.{state_of}
use Rattle.deny_cfg_entries.proofs.KeyLaws.{◌▷◌, all_read, read_table_keys}
use Rattle.deny_cfg_tables.specs.Apart.{ban-apart}
use Rattle.deny_cfg_tables.specs.Bans.{ban_keys}
use Rattle.deny_cfg_tables.proofs.bans.cfg.ban.CrateBanExtendedFromTable.read_keys.Goals as goal

pub returns-clause-read : goal.returns-clause-read
returns-clause-read c = read_table_keys ban_keys ban-apart (state_of c.args.helper.now) (
    (c.in_ok-wrappers.ensures.next, c.in_ok-wrappers.ensures.read)
    ▷ (c.in_ok-deny_multiple_versions.ensures.next, c.in_ok-deny_multiple_versions.ensures.read)
    ▷ (c.in_ok-reason.ensures.next, c.in_ok-reason.ensures.read)
    ▷ (c.in_ok-use_instead.ensures.next, c.in_ok-use_instead.ensures.read)
    ▷ all_read)
