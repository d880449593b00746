use Rattle.std.proofs.Common.{List, subst}
use Rattle.std.specs.Prelude.{Contains}
use Rattle.deny_base_lists.specs.Ascending.{Lists}
use Rattle.deny_base.specs.Edge.{edge_cmp}
use Rattle.deny_base.specs.declared.edge.Edge.{Edge}
use Rattle.deny_krates_graph.proofs.graph.edges_of.Goals as goal

pub returns : goal.returns
returns c = subst (λ (xs : List Edge). Lists edge_cmp (Contains xs) c.put_in_order.new.list) c.in_ok-edges.ensures
    c.in_ok-put_in_order.ensures.ok
