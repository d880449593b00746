use Rattle.deny_krates_graph.proofs.GraphLemmas.{IsGathered}
use Rattle.deny_krates_graph.proofs.graph.gather.Given as goal

abbrev pub invariant-loop-node : goal.invariant-loop-node
invariant-loop-node l = IsGathered l.packages l.rows l.marks l.kept l.node
