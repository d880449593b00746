use Rattle.deny_cfg_entries.specs.Table.{ReadsThere, state_of}
use Rattle.deny_cfg_entries.specs.Words.{ReadsSpanned, ReadsText}
use Rattle.deny_cfg_entries.proofs.KeyLaws.{◌▷◌, all_read, read_table_keys, there}
use Rattle.deny_cfg_tables.specs.Apart.{bypass_path-apart}
use Rattle.deny_cfg_tables.specs.Build.{bypass_path_keys}
use Rattle.deny_cfg_tables.proofs.bans.cfg.bypass.BypassPathFromTable.read_keys.Goals as goal

pub returns-in-Some-clause-read : goal.returns-in-Some-clause-read
returns-in-Some-clause-read c =
    read_table_keys bypass_path_keys bypass_path-apart (state_of c.args.helper.now) ((
      c.in_ok-path.ensures.next,
      there _ _ (ReadsThere (ReadsSpanned ReadsText)) _ _ c.in-Some.is
          c.in_ok-path.ensures.read,
    )
    ▷ (c.in_ok-checksum.ensures.next, c.in_ok-checksum.ensures.read)
    ▷ all_read)
