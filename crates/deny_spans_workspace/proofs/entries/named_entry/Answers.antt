use Rattle.std.proofs.Common.{◌∙◌, Some, ap, sym, rules, arith}
use Rattle.std.specs.Cmp.Lexicographic.{slice_cmp, nat_list_cmp_total}
use Rattle.std.specs.Ordering.{nat_cmp}
use Rattle.std.proofs.lemmas.Fn.{always_returns_same}
use Rattle.std.proofs.lemmas.List.Sorted.{searchable_from_sorted}
use Rattle.std.proofs.lemmas.Option.{slice_get-get_or}
use Rattle.deny_toml.specs.Calls.{entry_at}
use Rattle.deny_toml.specs.Key.{Key}
use Rattle.deny_toml.specs.value.Value.{Value}
use Rattle.deny_spans_workspace.proofs.EntryLemmas.{found_at, found_none, names_ascend_in, names_sorted}
use Rattle.deny_spans_workspace.proofs.entries.named_entry.Goals as goal

pub returns-in-Ok : goal.returns-in-Ok
returns-in-Ok c =
    let es = c.entries-entries.result.now in
    let name = c.args.name.now in
    let e = c.index-entries-at.result in
    let tie = c.in-Ok.ensures.position (λ (e : Key × Value). slice_cmp nat_cmp e.0.name name)
    (always_returns_same _ _ _ (λ a r f called. search rules)) e in
    ap (λ e. Some e) c.index-entries-at.is ∙ sym (slice_get-get_or es c.in-Ok.at e c.in-Ok.ensures.bound)
    ∙ found_at es name c.in-Ok.at e (names_ascend_in es c.args.table.now c.entries-entries.ensures c.requires)
    c.in-Ok.ensures.bound tie
    ∙ ap (entry_at name) c.entries-entries.ensures

pub returns-in-Err : goal.returns-in-Err
returns-in-Err c =
    let es = c.entries-entries.result.now in
    let name = c.args.name.now in
    let ascend = names_ascend_in es c.args.table.now c.entries-entries.ensures c.requires in
    let point = c.in-Err.ensures.position (λ (e : Key × Value). slice_cmp nat_cmp e.0.name name)
    (always_returns_same _ _ _ (λ a r f called. search rules))
    (searchable_from_sorted nat_list_cmp_total (λ (e : Key × Value). e.0.name) es name (names_sorted es ascend)) in
    found_none es name c.in-Err.field-0 (λ k d below. point.0 k d (omega arith) below)
    (λ k d past inside. point.1 k d past inside)
    ∙ ap (entry_at name) c.entries-entries.ensures
