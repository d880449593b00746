use Rattle.std.proofs.Common.{filter, length, take}
use Rattle.std.specs.List.{AllZip}
use Rattle.deny_cfg.specs.PolicyView.{policy_view}
use Rattle.deny_base_lists.specs.Walk.{AreUnset}
use Rattle.deny_rules_dup_edges.specs.DupEdges.{AreEdgesOf, is_of_duplicate}
use Rattle.deny_rules_dup_edges.proofs.dup_edges.dup_edges_of.Given as goal

abbrev pub invariant-loop-key : goal.invariant-loop-key
invariant-loop-key l = record {
  shown : AllZip (AreEdgesOf (policy_view l.cfg) l.krates) (filter is_of_duplicate (take l.key-index l.keys)) l.shown;
  unset : AreUnset (length l.krates.crates) l.distances;
}
