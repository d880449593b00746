use Rattle.deny_base.proofs.EdgeEqual.{edge_cmp-total, edge_cmp-exact}
use Rattle.deny_base.proofs.edge.edge_order.Goals as goal

pub returns-clause-total : goal.returns-clause-total
returns-clause-total c = edge_cmp-total

pub returns-clause-equal : goal.returns-clause-equal
returns-clause-equal c = edge_cmp-exact
