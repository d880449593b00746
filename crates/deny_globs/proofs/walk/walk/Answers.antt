use Rattle.std.proofs.Common.{arith, ap, refl, sym, subst, length, drop, length-drop, mul-le-mul_right, ◌∙◌, ◌≡◌, ◌≤◌}
use Rattle.std.proofs.Common.{◌+◌, ◌-◌, ◌*◌}
use Rattle.std.specs.Prelude.{Contains}
use Rattle.std.proofs.lemmas.Result.{on_ok_weaker}
use Rattle.deny_globs.specs.private.Walk.{HasEnd, Notes}
use Rattle.deny_globs.proofs.MarkedLemmas.{take_all}
use Rattle.deny_globs.proofs.WalkLemmas.{IsAtIndex, at_next_index, at_last_index, rest_at_end, notes_back, notes_none}
use Rattle.deny_globs.proofs.WalkLemmas.{no_more, nothing_starts, times}
use Rattle.deny_globs.proofs.walk.walk.Goals as goal

pub returns-then-is_empty-clause-notes : goal.returns-then-is_empty-clause-notes
returns-then-is_empty-clause-notes g c =
    notes_none refl (λ glob s. nothing_starts c.args.starts.now (sym c.is_empty.ensures ∙ c.if-is_empty.true) s)

pub mark_starts-requires-clause-within : goal.mark_starts-requires-clause-within
mark_starts-requires-clause-within g c n h = omega (arith, c.requires.within n h, c.in_ok-now.ensures.room)

pub returns-in_err-mark_starts-clause-steps : goal.returns-in_err-mark_starts-clause-steps
returns-in_err-mark_starts-clause-steps g c =
    let m = c.in_err-mark_starts.ensures in
    omega (
      arith,
      m.steps,
      m.bound,
      m.room,
      c.in_ok-now.ensures.room,
      times (length c.args.path.now) (length c.args.states.now),
    )

pub returns-then-is_empty-2-clause-steps : goal.returns-then-is_empty-2-clause-steps
returns-then-is_empty-2-clause-steps g c =
    let n = length c.args.states.now in
    let old = c.loop-index.invariant in
    let before : c.loop-index.index ≤ length c.args.path.now = omega arith in
    omega (arith, old.steps, old.bound, old.now, mul-le-mul_right n before, times (length c.args.path.now) n)

pub returns-in_err-pass-clause-steps : goal.returns-in_err-pass-clause-steps
returns-in_err-pass-clause-steps g c =
    let n = length c.args.states.now in
    let p = c.in_err-pass.ensures in
    let old = c.loop-index.invariant in
    let before : c.loop-index.index + 1 ≤ length c.args.path.now = omega arith in
    omega (
      arith,
      p.steps,
      p.now_bound,
      p.next_bound,
      p.now,
      p.next,
      old.now,
      old.next,
      old.steps,
      mul-le-mul_right n before,
      times c.loop-index.index n,
      times (length c.args.path.now) n,
    )

pub loop-index-preserved : goal.loop-index-preserved
loop-index-preserved g c =
    let p = c.in_ok-pass.ensures in
    let old = c.loop-index.invariant in
    record {
      at = subst (λ v. IsAtIndex c.args.states.now c.args.starts.now c.args.path.now (c.loop-index.index + 1) v.0)
          (sym c.swap.ensures.x_after)
          (at_next_index c.loop-index.index (omega arith)
          (take_all (drop c.loop-index.index c.args.path.now) (length c.args.path.now - c.loop-index.index)
          (omega (arith, length-drop c.loop-index.index c.args.path.now))) old.at p.ok);
      none = ap (λ v. v.0) c.swap.ensures.y_after ∙ c.clear.ensures.empty;
      now = omega (arith, ap (λ v. v.1) c.swap.ensures.x_after, p.next, old.next);
      next = omega (arith, ap (λ v. v.1) c.swap.ensures.y_after, c.clear.ensures.room, p.now, old.now);
      bound = omega (
        arith,
        ap (λ v. length v.0) c.swap.ensures.x_after,
        ap (λ v. v.1) c.swap.ensures.x_after,
        p.next_bound,
      );
      steps = omega (
        arith,
        p.steps,
        old.steps,
        p.now_bound,
        p.now,
        old.now,
        ap (λ v. length v.0) c.swap.ensures.x_after,
        times c.loop-index.index (length c.args.states.now),
      );
    }

pub returns-in_err-pass-2-clause-steps : goal.returns-in_err-pass-2-clause-steps
returns-in_err-pass-2-clause-steps g c =
    let p = c.in_err-pass-2.ensures in
    let n = length c.args.states.now in
    let size = length c.args.path.now in
    let rest_is = take_all (drop size c.args.path.now) (size - size) (omega (arith, length-drop size c.args.path.now))
    in
    let none = p.none (rest_at_end c.args.path.now rest_is) in
    let last : c.loop-index.index ≡ size = omega arith in
    omega (
      arith,
      p.steps,
      p.now_bound,
      p.now,
      c.loop-index.invariant.now,
      c.loop-index.invariant.steps,
      ap length none,
      ap (λ k. k * n) last,
      times size n,
    )

pub returns-clause-steps : goal.returns-clause-steps
returns-clause-steps g c =
    let p = c.in_ok-pass-2.ensures in
    let n = length c.args.states.now in
    let size = length c.args.path.now in
    let rest_is = take_all (drop size c.args.path.now) (size - size) (omega (arith, length-drop size c.args.path.now))
    in
    let none = p.none (rest_at_end c.args.path.now rest_is) in
    let last : c.loop-index.index ≡ size = omega arith in
    omega (
      arith,
      p.steps,
      p.now_bound,
      p.now,
      c.loop-index.invariant.now,
      c.loop-index.invariant.steps,
      ap length none,
      ap (λ k. k * n) last,
      times size n,
    )

pub returns-then-is_empty-2-clause-notes : goal.returns-then-is_empty-2-clause-notes
returns-then-is_empty-2-clause-notes g c =
    notes_none refl
    (λ glob s. no_more (c.is_empty-in-loop-index.ensures c.if-is_empty-2.true) c.loop-index.invariant.at s)

pub note_ends-requires : goal.note_ends-requires
note_ends-requires g c n h =
    omega (
      arith,
      c.as_slice.ensures.inside n (subst (λ l. Contains l n) c.as_slice.ensures.value h),
      c.in_ok-pass-2.ensures.now,
      c.loop-index.invariant.now,
    )

pub returns-clause-notes : goal.returns-clause-notes
returns-clause-notes g c =
    on_ok_weaker c.note_ends.result
    (λ n. notes_back (at_last_index c.loop-index.index (omega arith)
    (take_all (drop (length c.args.path.now) c.args.path.now) (length c.args.path.now - length c.args.path.now)
    (omega (arith, length-drop (length c.args.path.now) c.args.path.now))) c.loop-index.invariant.at
    c.in_ok-pass-2.ensures.ok)
    (subst (λ l. Notes (HasEnd c.args.states.now l) c.args.fitting.now c.note_ends.new.fitting)
    c.as_slice.ensures.value n))
    c.note_ends.ensures
