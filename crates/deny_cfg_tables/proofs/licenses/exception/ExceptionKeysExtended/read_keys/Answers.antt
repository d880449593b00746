use Rattle.deny_cfg_entries.specs.Licence.{ReadsLicences}
use Rattle.deny_cfg_entries.specs.Table.{ReadsThere, state_of}
use Rattle.deny_cfg_entries.proofs.KeyLaws.{◌▷◌, all_read, read_table_keys, there}
use Rattle.deny_cfg_tables.specs.Apart.{exception-apart}
use Rattle.deny_cfg_tables.specs.Licenses.{exception_keys}
use Rattle.deny_cfg_tables.proofs.licenses.exception.ExceptionKeysExtended.read_keys.Goals as goal

pub returns-in-Some-clause-read : goal.returns-in-Some-clause-read
returns-in-Some-clause-read c =
    read_table_keys exception_keys exception-apart (state_of c.args.helper.now) ((
      c.in_ok-allow.ensures.next,
      there _ _ (ReadsThere ReadsLicences) _ _ c.in-Some.is c.in_ok-allow.ensures.read,
    )
    ▷ (c.in_ok-expires.ensures.next, c.in_ok-expires.ensures.read)
    ▷ all_read)
