use Rattle.std.proofs.Common.{◌≡◌, ◌-◌, ◌≤◌, ℕ, [], length}
use Rattle.deny_krates_graph.specs.private.Reach.{links_at}
use Rattle.deny_krates_graph.proofs.filtered.no_links.Given as goal

abbrev pub invariant-rows : goal.invariant-rows
invariant-rows l = record {
  empty : (place : ℕ) → links_at l.rows.items place ≡ [];
  within : length l.rows.items
      ≤ l.crates;
}

abbrev pub decreases-rows : goal.decreases-rows
decreases-rows l = l.crates - length l.rows.items
