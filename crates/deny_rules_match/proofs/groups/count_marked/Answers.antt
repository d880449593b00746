use Rattle.std.proofs.Common.{◌≡◌, ◌+◌, ◌-◌, ℕ, ◌∙◌, sym, subst, arith, filter, length}
use Rattle.std.specs.List.{range_with_len}
use Rattle.deny_rules_match.specs.Marks.{mark_at}
use Rattle.deny_rules_match.proofs.RunLemmas.{counted-within, counted-on, counted-off}
use Rattle.deny_rules_match.proofs.groups.count_marked.Goals.{then-mark_at, else-mark_at}
use Rattle.deny_rules_match.proofs.groups.count_marked.Goals as goal

pub overflow_add-count : goal.overflow_add-count
overflow_add-count c =
    let few = counted-within
    (mark_at c.args.marks.now) c.loop-place.count c.loop-place.place c.args.start c.args.end c.loop-place.invariant in
    omega (arith, few, c.ranges.end.fits)

pub loop-place-preserved : goal.loop-place-preserved
loop-place-preserved c =
    let marks = c.args.marks.now in
    let total = length (filter (mark_at marks) (range_with_len c.args.start (c.args.end - c.args.start))) in
    let rest = length (filter (mark_at marks) (range_with_len (c.loop-place.place + 1)
    (c.args.end - (c.loop-place.place + 1)))) in
    elim c.if-mark_at.branch as (λ _. c.if-mark_at.count + rest ≡ total) [
      | then-mark_at w ↦ subst (λ (n : ℕ). n + rest ≡ total) (sym w.count-is)
          (counted-on (mark_at marks) c.loop-place.count c.loop-place.place c.args.end total c.loop-place-test.true
          (sym c.mark_at.ensures ∙ w.if-mark_at.true) c.loop-place.invariant)
      | else-mark_at w ↦ subst (λ (n : ℕ). n + rest ≡ total) (sym w.count-is)
          (counted-off (mark_at marks) c.loop-place.count c.loop-place.place c.args.end total c.loop-place-test.true
          (sym c.mark_at.ensures ∙ w.if-mark_at.false) c.loop-place.invariant)
    ]
