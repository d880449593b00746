use Rattle.std.proofs.Common.{◌∙◌, ap, subst, sym, List}
use Rattle.std.specs.Prelude.{filter_map}
use Rattle.std.specs.List.Sorted.{IsStrictlySortedBy}
use Rattle.deny_base_lists.proofs.Filters.{filter_map-map}
use Rattle.deny_base.specs.Entry.{entry_cmp}
use Rattle.deny_base.specs.declared.entry.EntryId.{EntryId}
use Rattle.deny_gate.specs.private.Dead.{dead_entry}
use Rattle.deny_gate.specs.Report.{keys_in}
use Rattle.deny_gate.specs.declared.report.Finding.{Finding}
use Rattle.deny_gate.proofs.DeadEntries.{dead_listed}
use Rattle.deny_gate.proofs.HitOrder.{entries_ascend}
use Rattle.deny_gate.proofs.dead.dead_of.Goals as goal

pub dead_entries-requires : goal.dead_entries-requires
dead_entries-requires c = subst (λ (es : List EntryId). IsStrictlySortedBy entry_cmp es)
    (sym (c.as_slice.ensures ∙ c.in_ok-hit.ensures)) (entries_ascend c.args.hits.now c.requires)

pub returns : goal.returns
returns c =
    let findings = c.args.findings.now in
    let entries = c.in_ok-dead.ensures
    ∙ (ap (λ (hit : List EntryId). filter_map (λ (f : Finding). dead_entry hit f.diag.key) findings)
    (c.as_slice.ensures ∙ c.in_ok-hit.ensures)
    ∙ sym (filter_map-map (dead_entry _) (λ (f : Finding). f.diag.key) findings)) in
    dead_listed c.entry_order.ensures.total c.entry_order.ensures.equal (keys_in findings) c.args.hits.now
    _ _ entries c.in_ok-put_in_order.ensures.ok
