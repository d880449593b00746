use Rattle.std.proofs.Common.{◌≡◌, ◌-◌, ◌≤◌, [], length}
use Rattle.std.specs.Prelude.{replicate}
use Rattle.deny_krates_graph.proofs.direct.empty_rows.Given as goal

abbrev pub invariant-rows : goal.invariant-rows
invariant-rows l = record {
  made : l.rows.items ≡ replicate (length l.rows.items) [];
  within : length l.rows.items
      ≤ l.crates;
}

abbrev pub decreases-rows : goal.decreases-rows
decreases-rows l = l.crates - length l.rows.items
