use Rattle.std.proofs.Common.{◌-◌, take}
use Rattle.deny_base_lists.specs.Walk.{TakesInStep}
use Rattle.deny_base_lists.proofs.WalkLemmas.{IsSpreading}
use Rattle.deny_base_lists.proofs.walk.reach_from.Given as goal

abbrev pub invariant-loop-next : goal.invariant-loop-next
invariant-loop-next g l =
    let graph = g.G.Neighbours in
    record {
      spreading : IsSpreading (graph.leads l.graph) (graph.count l.graph) l.roots (l.distances, l.order) l.next;
      steps : TakesInStep (graph.degree l.graph) (take l.next l.order) l.fn.steps l.steps;
    }

abbrev pub decreases-loop-next : goal.decreases-loop-next
decreases-loop-next g l = g.G.Neighbours.count l.graph - l.next
