use Rattle.std.proofs.Common.{◌≡◌, ◌∙◌, sym, subst, rules, ap}
use Rattle.std.specs.Prelude.{IsSomeAnd}
use Rattle.deny_toml.specs.TableHelper.{table_faults}
use Rattle.deny_cfg_entries.specs.Table.{TableState, after_all, faults_of_table, state_of}
use Rattle.deny_cfg_entries.specs.Spec.{spec_fields, ReadsSpecKeys}
use Rattle.deny_cfg_entries.specs.Entry.{ReadsPair, entry_fields}
use Rattle.deny_cfg_entries.proofs.TableLaws.{all_faults, no_field_faults, read_in, reports_same, after_all-append}
use Rattle.deny_cfg_entries.proofs.TableLaws.{after_all-entries, none_left, none_before, said_whole}
use Rattle.deny_cfg_entries.proofs.extended.read_entry.Goals as goal

pub returns-in_err-finalize-clause-faults : goal.returns-in_err-finalize-clause-faults
returns-in_err-finalize-clause-faults g c =
    let h = c.in_ok-helper.ensures in
    let start = state_of c.in_ok-helper.helper in
    let between = state_of c.read_spec.new.helper in
    let fs = spec_fields c.in_ok-helper.helper.entries in
    let apart = g.met.T.Extended.apart c.in_ok-helper.helper.entries in
    let chain : state_of c.read_keys.new.helper
    ≡ after_all (entry_fields g.T.Extended.fields c.in_ok-helper.helper.entries) start =
    c.in_ok-said.ensures.next ∙ ap (after_all g.T.Extended.fields) c.in_ok-spec.ensures.next
    ∙ sym (after_all-append fs g.T.Extended.fields start) in
    let same =
    all_faults (entry_fields g.T.Extended.fields) c.args.value.now start (state_of c.read_keys.new.helper) apart
    h.table h.span h.no_fault_yet chain in
    let reported =
    reports_same (table_faults c.read_keys.new.helper.faults c.read_keys.new.helper.entries)
    (faults_of_table (entry_fields g.T.Extended.fields) c.args.value.now) c.in_err-finalize.field-0.0 same
    c.in_err-finalize.ensures.faults in
    search rules

pub unreachable-requires : goal.unreachable-requires
unreachable-requires g c =
    let h = c.in_ok-helper.ensures in
    let start = state_of c.in_ok-helper.helper in
    let between = state_of c.read_spec.new.helper in
    let fs = spec_fields c.in_ok-helper.helper.entries in
    let apart = g.met.T.Extended.apart c.in_ok-helper.helper.entries in
    let chain : state_of c.read_keys.new.helper
    ≡ after_all (entry_fields g.T.Extended.fields c.in_ok-helper.helper.entries) start =
    c.in_ok-said.ensures.next ∙ ap (after_all g.T.Extended.fields) c.in_ok-spec.ensures.next
    ∙ sym (after_all-append fs g.T.Extended.fields start) in
    let same =
    all_faults (entry_fields g.T.Extended.fields) c.args.value.now start (state_of c.read_keys.new.helper) apart
    h.table h.span h.no_fault_yet chain in
    let none =
    no_field_faults (entry_fields g.T.Extended.fields) c.args.value.now c.in_ok-helper.helper.entries
    c.in_ok-helper.helper.span h.table h.span (sym same ∙ c.in_ok-finalize.ensures.ok) in
    subst (λ o. IsSomeAnd o (ReadsSpecKeys c.in_ok-helper.helper.entries)) c.in-None.is
    (c.in_ok-spec.ensures.read (none_before fs g.T.Extended.fields start.span start.entries none))

pub returns-clause-ok : goal.returns-clause-ok
returns-clause-ok g c =
    let h = c.in_ok-helper.ensures in
    let start = state_of c.in_ok-helper.helper in
    let between = state_of c.read_spec.new.helper in
    let fs = spec_fields c.in_ok-helper.helper.entries in
    let apart = g.met.T.Extended.apart c.in_ok-helper.helper.entries in
    let chain : state_of c.read_keys.new.helper
    ≡ after_all (entry_fields g.T.Extended.fields c.in_ok-helper.helper.entries) start =
    c.in_ok-said.ensures.next ∙ ap (after_all g.T.Extended.fields) c.in_ok-spec.ensures.next
    ∙ sym (after_all-append fs g.T.Extended.fields start) in
    let same =
    all_faults (entry_fields g.T.Extended.fields) c.args.value.now start (state_of c.read_keys.new.helper) apart
    h.table h.span h.no_fault_yet chain in
    let clean = sym same ∙ c.in_ok-finalize.ensures.ok in
    let none =
    no_field_faults (entry_fields g.T.Extended.fields) c.args.value.now c.in_ok-helper.helper.entries
    c.in_ok-helper.helper.span h.table h.span clean in
    let spec =
    subst (λ o. IsSomeAnd o (ReadsSpecKeys c.in_ok-helper.helper.entries)) c.in-Some.is
    (c.in_ok-spec.ensures.read (none_before fs g.T.Extended.fields start.span start.entries none)) in
    let said =
    c.in_ok-said.ensures.read
    (none_left fs g.T.Extended.fields start between apart c.in_ok-spec.ensures.next none) in
    let rest = ap (λ (t : TableState). t.entries) c.in_ok-spec.ensures.next ∙ after_all-entries fs start in (
      clean,
      read_in (ReadsPair g.T.Extended.reads_in) c.args.value.now c.in_ok-helper.helper.entries
          (c.in-Some.spec, c.in_ok-said.said) h.table
          (record {
            of_spec = spec;
            besides =
                said_whole fs g.T.Extended.fields g.T.Extended.reads_in c.in_ok-helper.helper.entries
                c.in_ok-said.said g.met.T.Extended.depends apart
                (subst (λ es. g.T.Extended.reads_in es c.in_ok-said.said) rest said);
          }),
    )
