use Rattle.std.proofs.Common.{◌≡◌, map, take}
use Rattle.deny_krates_graph.specs.private.Graph.{place_at}
use Rattle.deny_krates_graph.proofs.graph.places_of.Given as goal

abbrev pub invariant-loop-start : goal.invariant-loop-start
invariant-loop-start l = l.members ≡ map (place_at l.places) (take l.start-index l.starts)
