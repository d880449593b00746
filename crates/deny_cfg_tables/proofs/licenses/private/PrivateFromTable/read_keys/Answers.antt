use Rattle.deny_cfg_entries.specs.Table.{state_of}
use Rattle.deny_cfg_entries.proofs.KeyLaws.{◌▷◌, all_read, read_table_keys}
use Rattle.deny_cfg_tables.specs.Apart.{private-apart}
use Rattle.deny_cfg_tables.specs.Licenses.{private_keys}
use Rattle.deny_cfg_tables.proofs.licenses.private.PrivateFromTable.read_keys.Goals as goal

pub returns-clause-read : goal.returns-clause-read
returns-clause-read c = read_table_keys private_keys private-apart (state_of c.args.helper.now) (
    (c.in_ok-ignore.ensures.next, c.in_ok-ignore.ensures.read)
    ▷ (c.in_ok-registries.ensures.next, c.in_ok-registries.ensures.read)
    ▷ all_read)
