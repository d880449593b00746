use Rattle.std.proofs.Common.{ℕ, ◌<◌, ◌^◌, ◌-◌, length}
use Rattle.deny_base_lists.specs.private.Halving.{IsBetween}
use Rattle.deny_base_lists.proofs.Fuel.{Fuel}
use Rattle.deny_base_lists.proofs.search.binary_search.Given as goal

abbrev pub invariant-loop-low : goal.invariant-loop-low
invariant-loop-low g l = record {
  between : IsBetween g.W.Wanted.name_of l.records (g.W.Wanted.name l.wanted) l.low l.high;
  fuel : (d : ℕ) → length l.records < 2 ^ d → Fuel d l.fn.steps l.steps l.low l.high;
}

abbrev pub decreases-loop-low : goal.decreases-loop-low
decreases-loop-low g l = l.high - l.low
