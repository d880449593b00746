use Rattle.deny_cfg_entries.specs.Table.{state_of}
use Rattle.deny_cfg_entries.proofs.KeyLaws.{◌▷◌, all_read, read_table_keys}
use Rattle.deny_cfg_tables.specs.Apart.{bypass-apart}
use Rattle.deny_cfg_tables.specs.Build.{bypass_keys}
use Rattle.deny_cfg_tables.proofs.bans.cfg.bypass.BypassKeysExtended.read_keys.Goals as goal

pub returns-clause-read : goal.returns-clause-read
returns-clause-read c = read_table_keys bypass_keys bypass-apart (state_of c.args.helper.now) (
    (c.in_ok-build_script.ensures.next, c.in_ok-build_script.ensures.read)
    ▷ (c.in_ok-required_features.ensures.next, c.in_ok-required_features.ensures.read)
    ▷ (c.in_ok-allow_globs.ensures.next, c.in_ok-allow_globs.ensures.read)
    ▷ (c.in_ok-allow.ensures.next, c.in_ok-allow.ensures.read)
    ▷ (c.in_ok-expires.ensures.next, c.in_ok-expires.ensures.read)
    ▷ all_read)
