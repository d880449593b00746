use Rattle.std.proofs.Common.{length, take}
use Rattle.std.specs.List.{AllZip}
use Rattle.deny_base_lists.specs.Walk.{AreUnset}
use Rattle.deny_rules_dup_edges.specs.DupEdges.{IsDupSetOf}
use Rattle.deny_rules_dup_edges.proofs.dup_edges.sets_of.Given as goal

abbrev pub invariant-loop-place : goal.invariant-loop-place
invariant-loop-place l = record {
  sets : AllZip (IsDupSetOf l.krates l.edges) (take l.place-index l.places) l.sets;
  unset : AreUnset (length l.krates.crates) l.distances;
}
