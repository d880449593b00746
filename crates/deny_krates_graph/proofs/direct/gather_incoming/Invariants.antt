use Rattle.std.proofs.Common.{◌≡◌, map, take}
use Rattle.deny_krates_graph.specs.private.Direct.{incoming_of}
use Rattle.deny_krates_graph.proofs.direct.gather_incoming.Given as goal

abbrev pub invariant-loop-edge : goal.invariant-loop-edge
invariant-loop-edge l = l.incoming ≡ map (incoming_of l.ranks) (take l.edge-index l.edges)
