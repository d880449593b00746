use Rattle.std.proofs.Common.{◌≡◌, map, take}
use Rattle.deny_spec.specs.TargetEdge.{edge_of}
use Rattle.deny_krates_graph.proofs.graph.without_targets.Given as goal

abbrev pub invariant-loop-each : goal.invariant-loop-each
invariant-loop-each l = l.edges ≡ map edge_of (take l.each-index l.targeted)
