use Rattle.std.proofs.Common.{rules, arith, List, ℕ}
use Rattle.std.specs.Cmp.Lexicographic.{slice_cmp, nat_list_cmp_total}
use Rattle.std.specs.Ordering.{nat_cmp}
use Rattle.std.proofs.lemmas.Fn.{always_returns_same}
use Rattle.std.proofs.lemmas.List.Sorted.{searchable_from_sorted}
use Rattle.deny_krates.proofs.LeadLemmas.{text_found, text_missing}
use Rattle.deny_krates_graph.proofs.SearchLemmas.{sorted_from_strict}
use Rattle.deny_krates.proofs.leads.index_of.Goals as goal

pub returns-in-Ok-clause-found : goal.returns-in-Ok-clause-found
returns-in-Ok-clause-found c =
    let text = c.args.text.now in
    let tie = c.in-Ok.ensures.position (λ (t : List ℕ). slice_cmp nat_cmp t text)
    (always_returns_same _ _ _ (λ a r f called. search rules)) text in
    text_found c.args.texts.now text c.in-Ok.index text c.in-Ok.ensures.bound tie

pub returns-in-Err-clause-none : goal.returns-in-Err-clause-none
returns-in-Err-clause-none c =
    let text = c.args.text.now in
    let texts = c.args.texts.now in
    let point = c.in-Err.ensures.position (λ (t : List ℕ). slice_cmp nat_cmp t text)
    (always_returns_same _ _ _ (λ a r f called. search rules))
    (searchable_from_sorted nat_list_cmp_total (λ (t : List ℕ). t) texts text
    (sorted_from_strict (slice_cmp nat_cmp) nat_list_cmp_total texts c.requires)) in
    text_missing texts text c.in-Err.field-0 (λ k d below. point.0 k d (omega arith) below)
    (λ k d past inside. point.1 k d past inside)
