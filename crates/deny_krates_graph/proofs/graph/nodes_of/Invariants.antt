use Rattle.std.proofs.Common.{◌≡◌, map, take}
use Rattle.deny_krates_graph.specs.declared.graph.KeptPackage.{KeptPackage}
use Rattle.deny_krates_graph.proofs.graph.nodes_of.Given as goal

abbrev pub invariant-loop-each : goal.invariant-loop-each
invariant-loop-each l = l.nodes ≡ map (λ (k : KeptPackage). k.node) (take l.each-index l.kept)
