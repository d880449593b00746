use Rattle.deny_krates_graph.proofs.GraphLemmas.{IsPlaced}
use Rattle.deny_krates_graph.proofs.graph.inverse_of.Given as goal

abbrev pub invariant-loop-place : goal.invariant-loop-place
invariant-loop-place l = IsPlaced l.numbers l.size l.places.items l.place
