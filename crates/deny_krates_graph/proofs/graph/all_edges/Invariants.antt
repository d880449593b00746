use Rattle.std.proofs.Common.{◌≡◌, ◌++◌, drop}
use Rattle.deny_krates_graph.specs.private.Graph.{edges_from}
use Rattle.deny_krates_graph.proofs.graph.all_edges.Given as goal

abbrev pub invariant-loop-place : goal.invariant-loop-place
invariant-loop-place l = l.edges ++ edges_from l.rows l.places l.place (drop l.place l.kept) ≡ edges_from l.rows
    l.places 0 l.kept
