use Rattle.std.proofs.Common.{sym, subst}
use Rattle.deny_cfg_entries.specs.Apart.{name-apart}
use Rattle.deny_cfg_entries.specs.Requirement.{requirement_text}
use Rattle.deny_cfg_entries.specs.Spec.{name_field, name_in, name_keys}
use Rattle.deny_cfg_entries.specs.Table.{ReadAt, ReadsThere, state_of}
use Rattle.deny_cfg_entries.specs.Words.{ReadsAs, ReadsSpanned}
use Rattle.deny_cfg_entries.proofs.KeyLaws.{◌▷◌, all_read, mapped, read_table_keys, there}
use Rattle.deny_cfg_entries.proofs.spec.read_name.Goals as goal

pub returns-in-Some-clause-read : goal.returns-in-Some-clause-read
returns-in-Some-clause-read c =
    let start = state_of c.args.helper.now in
    let Reads = ReadsThere (ReadsSpanned (ReadsAs name_in)) in
    let name = there name_field start Reads _ _ c.in-Some.is c.in_ok-name.ensures.read in
    read_table_keys name_keys name-apart start ((
      c.in_ok-name.ensures.next,
      subst (λ n. ReadAt name_field start (λ v. Reads v n))
          (sym c.with_version.ensures.name) name,
    )
    ▷ (
      c.in_ok-version.ensures.next,
      mapped _ _ (ReadsAs requirement_text) c.in_ok-version.version
          (λ written. written.text) _ c.with_version.ensures.version c.in_ok-version.ensures.read,
    )
    ▷ all_read)
