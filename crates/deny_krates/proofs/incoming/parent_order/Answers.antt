use Rattle.deny_krates.proofs.SourceLemmas.{parent_cmp-exact, parent_cmp-total}
use Rattle.deny_krates.proofs.incoming.parent_order.Goals as goal

pub returns-clause-total : goal.returns-clause-total
returns-clause-total c = parent_cmp-total

pub returns-clause-equal : goal.returns-clause-equal
returns-clause-equal c = parent_cmp-exact
