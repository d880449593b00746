use Rattle.std.proofs.Common.{arith, ap, length, refl, ◌∙◌}
use Rattle.deny_globs.proofs.WalkLemmas.{passing_start, passing_more, passed}
use Rattle.deny_globs.proofs.walk.pass.Goals as goal

pub loop-index-init : goal.loop-index-init
loop-index-init g c = record {
  passing = passing_start c.requires.none;
  none = λ e. c.requires.none;
  now = refl;
  next = refl;
  now_bound = c.requires.now_bound;
  next_bound = omega (arith, ap length c.requires.none);
  steps = omega (arith, ap length c.requires.none);
}

pub loop-index-preserved : goal.loop-index-preserved
loop-index-preserved g c =
    let step = c.in_ok-step_over.ensures in
    record {
      passing = passing_more (omega (arith, c.loop-index-test.true, c.count.ensures.count)) c.at-number.ensures.value
          c.loop-index.invariant.passing step.ok;
      none = λ e. step.none e ∙ c.loop-index.invariant.none e;
      now = omega (arith, step.now, c.loop-index.invariant.now);
      next = omega (arith, step.next, c.loop-index.invariant.next);
      now_bound = step.now_bound;
      next_bound = step.next_bound;
      steps = omega (arith, step.steps, c.loop-index.invariant.steps);
    }

pub returns-clause-ok : goal.returns-clause-ok
returns-clause-ok g c = passed (omega (arith, c.loop-index-test.false, c.count.ensures.count))
    c.loop-index.invariant.passing

pub returns-clause-none : goal.returns-clause-none
returns-clause-none g c = c.loop-index.invariant.none

pub loop-index-smaller : goal.loop-index-smaller
loop-index-smaller g c = omega (
  arith,
  c.loop-index-test.true,
  c.count.ensures.count,
  c.count.ensures.bound,
  c.loop-index.invariant.now,
  c.requires.now,
)
