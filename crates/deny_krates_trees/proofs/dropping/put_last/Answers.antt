use Rattle.std.proofs.Common.{◌≡◌, ◌∙◌, ◌+◌, ◌-◌, length, length-append, ap, sym, add_comm, arith}
use Rattle.std.proofs.lemmas.List.Sorted.{IsPermutation-swap, sum_by-IsPermutation}
use Rattle.std.proofs.lemmas.List.Sums.{sum_by-cons, sum_by_push}
use Rattle.deny_krates_trees.specs.private.Weights.{weight, weights}
use Rattle.deny_krates_trees.proofs.dropping.put_last.Goals as goal

pub returns : goal.returns
returns c =
    let old = c.args.left.now.items in
    let back = c.args.back in
    let pushed = c.push_reserved.new.self in
    let last = c.len-last.result - 1 in
    let long : length pushed.items ≡ length old + 1 = ap length c.push_reserved.ensures.items ∙ simp length-append in
    sum_by-IsPermutation weight pushed.items c.swap.new.self.items
    (IsPermutation-swap pushed.items c.swap.new.self.items 0 last (omega (arith, long))
    (omega (arith, long, pushed.ok.0)) c.swap.ensures.items)
    ∙ (ap weights c.push_reserved.ensures.items ∙ (sum_by_push weight old back ∙ (add_comm (weights old) (weight back)
    ∙ sym (sum_by-cons weight back old))))
