use Rattle.deny_base.proofs.EntryEqual.{entry_cmp-total, entry_cmp-exact}
use Rattle.deny_base.proofs.entry.entry_order.Goals as goal

pub returns-clause-total : goal.returns-clause-total
returns-clause-total c = entry_cmp-total

pub returns-clause-equal : goal.returns-clause-equal
returns-clause-equal c = entry_cmp-exact
