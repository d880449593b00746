use Rattle.std.proofs.Common.{List, subst}
use Rattle.std.specs.Prelude.{Contains}
use Rattle.deny_base_lists.specs.Ascending.{Lists}
use Rattle.deny_spec.specs.TargetEdge.{target_edge_cmp}
use Rattle.deny_spec.specs.declared.target_edge.TargetEdge.{TargetEdge}
use Rattle.deny_krates_graph.proofs.graph.target_edges_of.Goals as goal

pub returns : goal.returns
returns c = subst (λ (xs : List TargetEdge). Lists target_edge_cmp (Contains xs) c.put_in_order.new.list)
    c.in_ok-edges.ensures c.in_ok-put_in_order.ensures.ok
