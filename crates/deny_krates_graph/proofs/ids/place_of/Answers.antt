use Rattle.std.proofs.Common.{rules, arith}
use Rattle.std.specs.Cmp.Lexicographic.{slice_cmp, nat_list_cmp_total}
use Rattle.std.specs.Ordering.{nat_cmp}
use Rattle.std.proofs.lemmas.Fn.{always_returns_same}
use Rattle.std.proofs.lemmas.List.Sorted.{searchable_from_sorted}
use Rattle.deny_krates_graph.specs.declared.ids.IdEntry.{IdEntry}
use Rattle.deny_krates_graph.proofs.IdsLemmas.{entry_found, ids_sorted, no_entry}
use Rattle.deny_krates_graph.proofs.ids.place_of.Goals as goal

pub returns-in-Ok-clause-found : goal.returns-in-Ok-clause-found
returns-in-Ok-clause-found c =
    let id = c.args.id.now in
    let tie = c.in-Ok.ensures.position (λ (e : IdEntry). slice_cmp nat_cmp e.id id)
    (always_returns_same _ _ _ (λ a r f called. search rules)) c.index-entries-at.result in
    entry_found c.args.entries.now c.in-Ok.at id c.index-entries-at.result c.in-Ok.ensures.bound tie

pub returns-in-Err-clause-none : goal.returns-in-Err-clause-none
returns-in-Err-clause-none c =
    let id = c.args.id.now in
    let entries = c.args.entries.now in
    let point = c.in-Err.ensures.position (λ (e : IdEntry). slice_cmp nat_cmp e.id id)
    (always_returns_same _ _ _ (λ a r f called. search rules))
    (searchable_from_sorted nat_list_cmp_total (λ (e : IdEntry). e.id) entries id (ids_sorted entries c.requires)) in
    no_entry entries id c.in-Err.field-0 (λ k d below. point.0 k d (omega arith) below)
    (λ k d past inside. point.1 k d past inside)
