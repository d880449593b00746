use Rattle.std.proofs.Common.{◌≡◌, ◌+◌, ◌-◌, ◌≤◌, length, []}
use Rattle.deny_globs.proofs.WalkLemmas.{IsPassing}
use Rattle.deny_globs.proofs.walk.pass.Given as goal

abbrev pub invariant-loop-index : goal.invariant-loop-index
invariant-loop-index g l = record {
  passing : IsPassing l.states l.rest l.index l.fn.now.0 l.now.0 l.next.0;
  none : l.rest ≡ [] → l.next.0 ≡ [];
  now : l.now.1 ≡ l.fn.now.1;
  next : l.next.1 ≡ l.fn.next.1;
  now_bound : length l.now.0 ≤ l.now.1;
  next_bound : length l.next.0 ≤ l.next.1;
  steps : l.steps + length l.fn.now.0 ≡ l.fn.steps + length l.now.0 + length l.next.0;
}

abbrev pub decreases-loop-index : goal.decreases-loop-index
decreases-loop-index g l = length l.states - l.index
