use Rattle.deny_krates_graph.proofs.OrderLemmas.{incoming_cmp-total, incoming_cmp-exact}
use Rattle.deny_krates_graph.proofs.direct.incoming_order.Goals as goal

pub returns-clause-total : goal.returns-clause-total
returns-clause-total c = incoming_cmp-total

pub returns-clause-equal : goal.returns-clause-equal
returns-clause-equal c = incoming_cmp-exact c.edge_order.ensures.equal
