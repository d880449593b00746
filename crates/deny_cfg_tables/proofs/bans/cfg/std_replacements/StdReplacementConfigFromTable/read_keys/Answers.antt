use Rattle.deny_cfg_entries.specs.Table.{state_of}
use Rattle.deny_cfg_entries.proofs.KeyLaws.{◌▷◌, all_read, read_table_keys}
use Rattle.deny_cfg_tables.specs.Apart.{std-apart}
use Rattle.deny_cfg_tables.specs.StdReplacements.{std_fields, std_keys}
use Rattle.deny_cfg_tables.proofs.Chain.{◌▸◌, ended, ends}
use Rattle.deny_cfg_tables.proofs.bans.cfg.std_replacements.StdReplacementConfigFromTable.read_keys.Goals as goal

pub returns-clause-read : goal.returns-clause-read
returns-clause-read c = read_table_keys std_keys std-apart (state_of c.args.helper.now) (
    (c.in_ok-scope.ensures.next, c.in_ok-scope.ensures.read)
    ▷ (c.in_ok-level.ensures.next, c.in_ok-level.ensures.read)
    ▷ (c.in_ok-rust_version.ensures.next, c.in_ok-rust_version.ensures.read)
    ▷ (c.in_ok-ignore.ensures.next, c.in_ok-ignore.ensures.read)
    ▷ (c.in_ok-ignore_rust_version.ensures.next, c.in_ok-ignore_rust_version.ensures.read)
    ▷ all_read)

pub returns-clause-next : goal.returns-clause-next
returns-clause-next c = ends std_fields (state_of c.args.helper.now) _ (
    c.in_ok-scope.ensures.next
    ▸ c.in_ok-level.ensures.next
    ▸ c.in_ok-rust_version.ensures.next
    ▸ c.in_ok-ignore.ensures.next
    ▸ c.in_ok-ignore_rust_version.ensures.next
    ▸ ended)
