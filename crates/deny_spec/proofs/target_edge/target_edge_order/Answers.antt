use Rattle.deny_spec.proofs.TargetEdgeLemmas.{target_edge_cmp-total, target_edge_cmp-exact}
use Rattle.deny_spec.proofs.target_edge.target_edge_order.Goals as goal

pub returns-clause-total : goal.returns-clause-total
returns-clause-total c = target_edge_cmp-total

pub returns-clause-equal : goal.returns-clause-equal
returns-clause-equal c = target_edge_cmp-exact
