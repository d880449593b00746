use Rattle.std.proofs.Common.{rules, List, subst, sym}
use Rattle.std.specs.Ordering.{is_lt}
use Rattle.std.proofs.lemmas.Fn.{always_returns_same, dedup_same}
use Rattle.std.proofs.lemmas.List.Sorted.{ranks_by}
use Rattle.deny_base.specs.Entry.{entry_cmp}
use Rattle.deny_base.specs.declared.entry.Hit.{Hit}
use Rattle.deny_gate.specs.Hits.{entry_of}
use Rattle.deny_gate.specs.private.Hits.{IsOneEach}
use Rattle.deny_gate.proofs.HitOrder.{hits_from_sort, same_entry}
use Rattle.deny_gate.proofs.hits.put_hits_in_order.Goals as goal

pub returns : goal.returns
returns c =
    let total = c.entry_order.ensures.total in
    let sorted = c.in_ok-sort_by.ensures.sorted (λ (h k : Hit). is_lt (entry_cmp (entry_of h) (entry_of k)))
    (ranks_by total entry_of) (always_returns_same _ _ _ (λ a r f' k. search rules)) in
    let kept = dedup_same _ same_entry _ (λ h k b f' h' k' r. search rules) _ _ c.dedup_by.ensures.filtered in
    let one = subst (λ (hs : List Hit). IsOneEach hs) (sym c.hits.view_is) c.requires in
    rw (kept, ← c.hits.view_is)
    (hits_from_sort total c.entry_order.ensures.equal _ _ one c.sort_by.ensures.permutation sorted)
