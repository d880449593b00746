use Rattle.std.proofs.Common.{rules}
use Rattle.std.specs.Ordering.{is_lt}
use Rattle.std.proofs.lemmas.List.MinMax.{ranks_by}
use Rattle.std.proofs.lemmas.List.Sorted.{answers_always}
use Rattle.deny_krates_lock.proofs.OrderLemmas.{lock_cmp-total, sorted-is}
use Rattle.deny_krates_lock.specs.Order.{lock_cmp}
use Rattle.deny_krates_lock.specs.private.Placed.{placed_view}
use Rattle.deny_krates_lock.proofs.order.put_in_lock_order.Goals as goal

pub returns : goal.returns
returns c =
    sorted-is placed_view c.args.placed.now.items c.sort_by.new.self.items c.requires
    c.in_ok-sort_by.ensures.permutation
    (c.in_ok-sort_by.ensures.sorted (λ a b. is_lt (lock_cmp (placed_view a) (placed_view b)))
    (ranks_by lock_cmp-total placed_view)
    (answers_always _ _ _ (λ f a r g called. search rules)))
