use Rattle.std.proofs.Common.{◌<◌, ◌≤◌, ℕ, length}
use Rattle.deny_rules_dup_edges.specs.private.DupEdges.{edge_count}
use Rattle.deny_rules_dup_edges.proofs.dup_edges.simplest_index.Given as goal

abbrev pub invariant-loop-number : goal.invariant-loop-number
invariant-loop-number l = record {
  inside : l.simplest < length l.sets;
  before : l.simplest < l.number;
  least : (k : ℕ) → k < l.number → edge_count l.sets l.simplest ≤ edge_count l.sets k;
  earlier : (k : ℕ) → k < l.simplest → edge_count l.sets l.simplest < edge_count l.sets k;
}
