use Rattle.std.proofs.Common.{◌≡◌, ◌++◌, map, take}
use Rattle.deny_krates_graph.specs.private.Graph.{edge_to}
use Rattle.deny_krates_graph.proofs.graph.push_edges.Given as goal

abbrev pub invariant-loop-link : goal.invariant-loop-link
invariant-loop-link l = l.edges ≡ l.initial.edges ++ map (edge_to l.places l.parent) (take l.link-index l.links)
