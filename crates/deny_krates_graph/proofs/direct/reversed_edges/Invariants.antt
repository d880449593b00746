use Rattle.std.proofs.Common.{◌≡◌, map, take}
use Rattle.deny_krates_graph.specs.private.Direct.{reversed}
use Rattle.deny_krates_graph.proofs.direct.reversed_edges.Given as goal

abbrev pub invariant-loop-edge : goal.invariant-loop-edge
invariant-loop-edge l = l.others ≡ map reversed (take l.edge-index l.edges)
