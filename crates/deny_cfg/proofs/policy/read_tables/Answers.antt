use Rattle.std.proofs.Common.{◌≡◌, ◌++◌, [], List, Some, ap, not, subst, sym, ◌∙◌}
use Rattle.std.specs.Prelude.{IfErr, IfOk}
use Rattle.deny_toml.specs.Calls.{below_name}
use Rattle.deny_toml.specs.Faults.{Reports}
use Rattle.deny_toml.specs.Value.{table_with}
use Rattle.deny_toml.specs.error.ConfigFault.{ConfigFault}
use Rattle.deny_cfg_entries.specs.Table.{Entries}
use Rattle.deny_cfg.specs.PolicyText.{ReadsBans, ReadsLicensing, bans_name, licenses_name}
use Rattle.deny_cfg.proofs.RootLaws.{bans_without, licensing_without, no_root, ok_given, root_bans, root_faults}
use Rattle.deny_cfg.proofs.RootLaws.{root_licensing}
use Rattle.deny_cfg.proofs.policy.read_tables.Goals as goal

pub returns-then-is_none-clause-faultless : goal.returns-then-is_none-clause-faultless
returns-then-is_none-clause-faultless c =
    subst (λ (faults : List ConfigFault). IfOk c.tables_or_faults.result (λ tables. faults ≡ []))
    (no_root c.args.today c.args.tree.now c.as_table.result c.in_ok-waiting.waiting c.as_table.ensures
    (c.is_none.ensures ∙ ap not c.if-is_none.true) c.in_ok-waiting.ensures)
    c.tables_or_faults.ensures.faultless

pub returns-then-is_none-clause-bans : goal.returns-then-is_none-clause-bans
returns-then-is_none-clause-bans c =
    let v = c.args.tree.now in
    ok_given c.tables_or_faults.result c.none.result _ (λ given. ReadsBans (below_name bans_name v) given.bans)
    (returns-then-is_none-clause-faultless c) c.tables_or_faults.ensures.same
    (λ faultless. bans_without v c.as_table.result c.none.result.bans c.as_table.ensures
    (c.is_none.ensures ∙ ap not c.if-is_none.true) c.none.ensures.bans)

pub returns-then-is_none-clause-licenses : goal.returns-then-is_none-clause-licenses
returns-then-is_none-clause-licenses c =
    let v = c.args.tree.now in
    ok_given c.tables_or_faults.result c.none.result _
    (λ given. ReadsLicensing (below_name licenses_name v) given.licenses)
    (returns-then-is_none-clause-faultless c) c.tables_or_faults.ensures.same
    (λ faultless. licensing_without v c.as_table.result c.none.result.licenses c.as_table.ensures
    (c.is_none.ensures ∙ ap not c.if-is_none.true) c.none.ensures.licenses)

pub returns-then-is_none-clause-faults : goal.returns-then-is_none-clause-faults
returns-then-is_none-clause-faults c =
    subst (λ (faults : List ConfigFault). IfErr c.tables_or_faults.result (Reports faults))
    (no_root c.args.today c.args.tree.now c.as_table.result c.in_ok-waiting.waiting c.as_table.ensures
    (c.is_none.ensures ∙ ap not c.if-is_none.true) c.in_ok-waiting.ensures)
    c.tables_or_faults.ensures.faults

pub returns-clause-faultless : goal.returns-clause-faultless
returns-clause-faultless c =
    let h = c.in_ok-root.ensures in
    let table = h.table ∙ ap (λ (es : Entries). Some (table_with es)) (sym (ap (λ r. r.entries) c.in_ok-keep.ensures)) in
    let waiting =
    ap (λ r. r.faults) c.in_ok-keep.ensures
    ∙ ap (λ (faults : List ConfigFault). faults ++ c.in_ok-waiting.waiting) h.no_fault_yet ∙ c.in_ok-waiting.ensures in
    subst (λ (faults : List ConfigFault). IfOk c.tables_or_faults-2.result (λ tables. faults ≡ []))
    (root_faults c.args.tree.now c.keep.new.self.entries table c.args.today c.keep.new.self.faults _ waiting
    c.in_ok-tables.ensures.kept)
    c.tables_or_faults-2.ensures.faultless

pub returns-clause-bans : goal.returns-clause-bans
returns-clause-bans c =
    let h = c.in_ok-root.ensures in
    let table = h.table ∙ ap (λ (es : Entries). Some (table_with es)) (sym (ap (λ r. r.entries) c.in_ok-keep.ensures)) in
    let v = c.args.tree.now in
    let tables = c.in_ok-tables.tables in
    ok_given c.tables_or_faults-2.result tables _ (λ given. ReadsBans (below_name bans_name v) given.bans)
    (returns-clause-faultless c) c.tables_or_faults-2.ensures.same
    (λ none. root_bans v c.keep.new.self.entries table c.args.today tables.bans none c.in_ok-tables.ensures.bans)

pub returns-clause-licenses : goal.returns-clause-licenses
returns-clause-licenses c =
    let h = c.in_ok-root.ensures in
    let table = h.table ∙ ap (λ (es : Entries). Some (table_with es)) (sym (ap (λ r. r.entries) c.in_ok-keep.ensures)) in
    let v = c.args.tree.now in
    let tables = c.in_ok-tables.tables in
    ok_given c.tables_or_faults-2.result tables _ (λ given. ReadsLicensing (below_name licenses_name v) given.licenses)
    (returns-clause-faultless c) c.tables_or_faults-2.ensures.same
    (λ none. root_licensing v c.keep.new.self.entries table c.args.today tables.licenses none
    c.in_ok-tables.ensures.licenses)

pub returns-clause-faults : goal.returns-clause-faults
returns-clause-faults c =
    let h = c.in_ok-root.ensures in
    let table = h.table ∙ ap (λ (es : Entries). Some (table_with es)) (sym (ap (λ r. r.entries) c.in_ok-keep.ensures)) in
    let waiting =
    ap (λ r. r.faults) c.in_ok-keep.ensures
    ∙ ap (λ (faults : List ConfigFault). faults ++ c.in_ok-waiting.waiting) h.no_fault_yet ∙ c.in_ok-waiting.ensures in
    subst (λ (faults : List ConfigFault). IfErr c.tables_or_faults-2.result (Reports faults))
    (root_faults c.args.tree.now c.keep.new.self.entries table c.args.today c.keep.new.self.faults _ waiting
    c.in_ok-tables.ensures.kept)
    c.tables_or_faults-2.ensures.faults
