use Rattle.std.proofs.Common.{subst}
use Rattle.deny_cfg_entries.specs.Table.{ReadAt, ReadsOr, ReadsTable, optional, state_of}
use Rattle.deny_cfg_entries.specs.declared.policy_key.PolicyKey.TheVariants as key
use Rattle.deny_cfg_entries.proofs.KeyLaws.{◌▷◌, all_read, read_table_keys}
use Rattle.deny_cfg_tables.specs.Apart.{licenses-apart}
use Rattle.deny_cfg_tables.specs.Licenses.{ReadsPrivate, faults_of_private, licenses_fields, licenses_keys}
use Rattle.deny_cfg_tables.specs.declared.licenses.private.Private.{Private}
use Rattle.deny_cfg_tables.proofs.Chain.{◌▸◌, ended, ends}
use Rattle.deny_cfg_tables.proofs.licenses.config.ConfigFromTable.read_keys.Goals as goal

pub returns-clause-read : goal.returns-clause-read
returns-clause-read c =
    let P : Private → Type 0 = λ default. ReadAt (optional key.Private faults_of_private)
    (state_of c.optional_list.new.helper) (λ v. ReadsOr default (ReadsTable ReadsPrivate) v c.in_ok-private.private) in
    read_table_keys licenses_keys licenses-apart (state_of c.args.helper.now) (
    (c.pass_unread.ensures, record { says = λ none. tt })
    ▷ (c.pass_unread-2.ensures, record { says = λ none. tt })
    ▷ (c.in_ok-allow.ensures.next, c.in_ok-allow.ensures.read)
    ▷ (c.in_ok-exceptions.ensures.next, c.in_ok-exceptions.ensures.read)
    ▷ (c.in_ok-private.ensures.next, subst P c.none.ensures c.in_ok-private.ensures.read)
    ▷ (c.in_ok-include_dev.ensures.next, c.in_ok-include_dev.ensures.read)
    ▷ (c.in_ok-unused_allowed.ensures.next, c.in_ok-unused_allowed.ensures.read)
    ▷ all_read)

pub returns-clause-next : goal.returns-clause-next
returns-clause-next c = ends licenses_fields (state_of c.args.helper.now) _ (
    c.pass_unread.ensures
    ▸ c.pass_unread-2.ensures
    ▸ c.in_ok-allow.ensures.next
    ▸ c.in_ok-exceptions.ensures.next
    ▸ c.in_ok-private.ensures.next
    ▸ c.in_ok-include_dev.ensures.next
    ▸ c.in_ok-unused_allowed.ensures.next
    ▸ ended)
