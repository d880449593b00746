use Rattle.std.proofs.Common.{◌≡◌, ◌++◌, take}
use Rattle.deny_rules.proofs.replaced.add_hits.Given as goal

abbrev pub invariant-loop-hit : goal.invariant-loop-hit
invariant-loop-hit l = l.hits ≡ l.fn.hits ++ take l.hit-index l.more
