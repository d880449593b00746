use Rattle.deny_base.proofs.UnreadEqual.{unread_cmp-total, unread_cmp-exact}
use Rattle.deny_base.proofs.unread.unread_order.Goals as goal

pub returns-clause-total : goal.returns-clause-total
returns-clause-total c = unread_cmp-total

pub returns-clause-equal : goal.returns-clause-equal
returns-clause-equal c = unread_cmp-exact
