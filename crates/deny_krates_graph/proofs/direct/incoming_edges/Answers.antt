use Rattle.std.proofs.Common.{List, subst}
use Rattle.std.specs.Prelude.{Contains}
use Rattle.deny_base_lists.specs.Ascending.{Lists}
use Rattle.deny_krates_graph.specs.private.Direct.{incoming_cmp}
use Rattle.deny_krates_graph.specs.declared.direct.IncomingEdge.{IncomingEdge}
use Rattle.deny_krates_graph.proofs.direct.incoming_edges.Goals as goal

pub returns : goal.returns
returns c = subst (λ (xs : List IncomingEdge). Lists incoming_cmp (Contains xs) c.put_in_order.new.list)
    c.in_ok-incoming.ensures c.in_ok-put_in_order.ensures.ok
