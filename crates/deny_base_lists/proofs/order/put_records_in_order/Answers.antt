use Rattle.std.proofs.Common.{rules}
use Rattle.std.specs.Ordering.{eq_by_cmp, is_lt}
use Rattle.std.proofs.lemmas.Fn.{always_returns_same, dedup_same}
use Rattle.std.proofs.lemmas.List.Sorted.{ranks_by}
use Rattle.deny_base_lists.proofs.RecordLemmas.{keys_from_sort, firsts_from_sort}
use Rattle.deny_base_lists.proofs.order.put_records_in_order.Goals as goal

pub returns-clause-keys : goal.returns-clause-keys
returns-clause-keys g c =
    let key = g.T.Keyed.key in
    let cmp = g.T.Key.Ord.cmp in
    let total = g.met.T.Key.Ord.total in
    let sorted = c.in_ok-sort_by.ensures.sorted (λ x y. is_lt (cmp (key x) (key y))) (ranks_by total key)
    (always_returns_same _ _ _ (λ a r f' k. search rules)) in
    let kept = dedup_same _ (λ x y. eq_by_cmp cmp (key x) (key y)) _ (λ x y b f' x' y' k. search rules) _ _
    c.dedup_by.ensures.filtered in
    rw (kept, ← c.list.view_is) (keys_from_sort total c.requires key _ _ c.sort_by.ensures.permutation sorted)

pub returns-clause-records : goal.returns-clause-records
returns-clause-records g c =
    let key = g.T.Keyed.key in
    let cmp = g.T.Key.Ord.cmp in
    let total = g.met.T.Key.Ord.total in
    let sorted = c.in_ok-sort_by.ensures.sorted (λ x y. is_lt (cmp (key x) (key y))) (ranks_by total key)
    (always_returns_same _ _ _ (λ a r f' k. search rules)) in
    let stable = c.in_ok-sort_by.ensures.stable (λ x y. is_lt (cmp (key x) (key y))) (ranks_by total key)
    (always_returns_same _ _ _ (λ a r f' k. search rules)) in
    let kept = dedup_same _ (λ x y. eq_by_cmp cmp (key x) (key y)) _ (λ x y b f' x' y' k. search rules) _ _
    c.dedup_by.ensures.filtered in
    rw (kept, ← c.list.view_is) (firsts_from_sort total c.requires key _ _ sorted stable)
