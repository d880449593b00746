use Rattle.std.proofs.Common.{◌≡◌, ℕ, ◌-◌, ◌<◌, ◌≤◌}
use Rattle.std.specs.Cmp.Lexicographic.{slice_cmp}
use Rattle.std.specs.Ordering.{nat_cmp}
use Rattle.std.specs.declared.cmp.Ordering.TheVariants.{Less, Greater}
use Rattle.deny_std_table.specs.Width.{width_of}
use Rattle.deny_std_table.specs.private.Names.{name_at}
use Rattle.deny_std_table.proofs.names.find.Given as goal

-- the names before `low` are below the one that is searched, those from `high` on are above it
abbrev pub invariant-loop-low : goal.invariant-loop-low
invariant-loop-low l = record {
  ordered : l.low ≤ l.high;
  inside : l.high ≤ l.count;
  below : (k : ℕ) → k < l.low → slice_cmp nat_cmp (name_at (width_of l.width) l.bytes k) l.name ≡ Less;
  above : (k : ℕ) → l.high ≤ k → k < l.count
      → slice_cmp nat_cmp (name_at (width_of l.width) l.bytes k) l.name ≡ Greater;
}

abbrev pub decreases-loop-low : goal.decreases-loop-low
decreases-loop-low l = l.high - l.low
