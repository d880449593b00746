use Rattle.std.proofs.lemmas.List.Filters.{dedup_is}
use Rattle.deny_base_lists.proofs.Sorted.{lists_from_sort}
use Rattle.deny_base_lists.proofs.order.put_in_order.Goals as goal

pub returns-clause-ok : goal.returns-clause-ok
returns-clause-ok g c =
    let kept = dedup_is g.T.PartialEq.eq _ _ c.dedup.ensures.filtered in
    rw (kept, ← c.list.view_is)
    (lists_from_sort g.met.T.Ord.total c.requires g.met.T.Eq.laws g.met.T.Ord.matches_eq _ _
    c.sort.ensures.permutation c.in_ok-sort.ensures.sorted)
