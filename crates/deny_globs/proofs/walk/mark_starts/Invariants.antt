use Rattle.std.proofs.Common.{ℕ, ◌≡◌, ◌+◌, ◌≤◌, length, take}
use Rattle.std.specs.Prelude.{Contains}
use Rattle.deny_globs.proofs.walk.mark_starts.Given as goal

abbrev pub invariant-loop-start : goal.invariant-loop-start
invariant-loop-start g l = record {
  only : (n : ℕ) → Contains l.now.0 n → Contains l.starts n;
  all : (n : ℕ) → Contains (take l.start-index l.starts) n → Contains l.now.0 n;
  room : l.now.1 ≡ l.fn.now.1;
  bound : length l.now.0 ≤ l.now.1;
  steps : l.steps ≡ l.fn.steps + length l.now.0;
}
