use Rattle.std.proofs.Common.{◌≡◌, ◌+◌, ◌*◌, ◌≤◌, length, []}
use Rattle.deny_globs.proofs.WalkLemmas.{IsAtIndex}
use Rattle.deny_globs.proofs.walk.walk.Given as goal

abbrev pub invariant-loop-index : goal.invariant-loop-index
invariant-loop-index g l = record {
  at : IsAtIndex l.states l.starts l.path l.index l.now.0;
  none : l.next.0 ≡ [];
  now : l.now.1 ≡ length l.states;
  next : l.next.1 ≡ length l.states;
  bound : length l.now.0 ≤ l.now.1;
  steps : l.steps ≤ l.fn.steps + l.index * length l.states + length l.now.0;
}
