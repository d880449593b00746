use Rattle.std.proofs.Common.{◌∙◌, sym, subst, rules}
use Rattle.std.specs.Prelude.{IsSomeAnd}
use Rattle.deny_toml.specs.TableHelper.{table_faults}
use Rattle.deny_cfg_entries.specs.Table.{faults_of_table, state_of}
use Rattle.deny_cfg_entries.specs.Spec.{spec_fields, ReadsSpecKeys}
use Rattle.deny_cfg_entries.specs.Apart.{spec-apart}
use Rattle.deny_cfg_entries.proofs.TableLaws.{all_faults, no_field_faults, read_in, reports_same}
use Rattle.deny_cfg_entries.proofs.spec.read_spec_table.Goals as goal

pub returns-in_err-finalize-clause-faults : goal.returns-in_err-finalize-clause-faults
returns-in_err-finalize-clause-faults c =
    let h = c.in_ok-helper.ensures in
    let same =
    all_faults spec_fields c.args.value.now (state_of c.in_ok-helper.helper) (state_of c.read_spec.new.helper)
    (spec-apart c.in_ok-helper.helper.entries) h.table h.span h.no_fault_yet c.in_ok-spec.ensures.next in
    let reported =
    reports_same (table_faults c.read_spec.new.helper.faults c.read_spec.new.helper.entries)
    (faults_of_table spec_fields c.args.value.now) c.in_err-finalize.field-0.0 same
    c.in_err-finalize.ensures.faults in
    search rules

pub unreachable-requires : goal.unreachable-requires
unreachable-requires c =
    let h = c.in_ok-helper.ensures in
    let same =
    all_faults spec_fields c.args.value.now (state_of c.in_ok-helper.helper) (state_of c.read_spec.new.helper)
    (spec-apart c.in_ok-helper.helper.entries) h.table h.span h.no_fault_yet c.in_ok-spec.ensures.next in
    let none =
    no_field_faults spec_fields c.args.value.now c.in_ok-helper.helper.entries c.in_ok-helper.helper.span h.table
    h.span (sym same ∙ c.in_ok-finalize.ensures.ok) in
    subst (λ o. IsSomeAnd o (ReadsSpecKeys c.in_ok-helper.helper.entries)) c.in-None.is (c.in_ok-spec.ensures.read none)

pub returns-clause-ok : goal.returns-clause-ok
returns-clause-ok c =
    let h = c.in_ok-helper.ensures in
    let same =
    all_faults spec_fields c.args.value.now (state_of c.in_ok-helper.helper) (state_of c.read_spec.new.helper)
    (spec-apart c.in_ok-helper.helper.entries) h.table h.span h.no_fault_yet c.in_ok-spec.ensures.next in
    let clean = sym same ∙ c.in_ok-finalize.ensures.ok in
    let none = no_field_faults spec_fields c.args.value.now c.in_ok-helper.helper.entries c.in_ok-helper.helper.span
    h.table h.span clean in (
      clean,
      read_in ReadsSpecKeys c.args.value.now c.in_ok-helper.helper.entries c.in-Some.spec h.table
          (subst (λ o. IsSomeAnd o (ReadsSpecKeys c.in_ok-helper.helper.entries)) c.in-Some.is
          (c.in_ok-spec.ensures.read none)),
    )
