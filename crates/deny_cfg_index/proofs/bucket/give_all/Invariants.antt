use Rattle.std.proofs.Common.{◌≡◌, ◌+◌, take}
use Rattle.deny_cfg_index.proofs.bucket.give_all.Given as goal

abbrev pub invariant-loop-number : goal.invariant-loop-number
invariant-loop-number g l = record {
  given : l.numbers.items ≡ take l.number-index l.given;
  steps : l.steps ≡ l.fn.steps + l.number-index;
}
