use Rattle.std.proofs.Common.{length}
use Rattle.deny_cases_std.proofs.cases.push_items.Given as goal

abbrev pub decreases-loop-item : goal.decreases-loop-item
decreases-loop-item l = length l.items.items
