use Rattle.deny_krates_graph.proofs.OrderLemmas.{kept_cmp-total, kept_cmp-exact}
use Rattle.deny_krates_graph.proofs.graph.kept_order.Goals as goal

pub returns-clause-total : goal.returns-clause-total
returns-clause-total c = kept_cmp-total

pub returns-clause-equal : goal.returns-clause-equal
returns-clause-equal c = kept_cmp-exact
