use Rattle.deny_krates_graph.proofs.GraphLemmas.{AreSortedOut}
use Rattle.deny_krates_graph.proofs.direct.direct_of.Given as goal

abbrev pub invariant-loop-edge : goal.invariant-loop-edge
invariant-loop-edge l = AreSortedOut l.incoming l.crates l.direct.items l.edge-index
