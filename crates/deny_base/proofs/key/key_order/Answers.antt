use Rattle.deny_base.proofs.KeyEqual.{key_cmp-total, key_cmp-exact}
use Rattle.deny_base.proofs.key.key_order.Goals as goal

pub returns-clause-total : goal.returns-clause-total
returns-clause-total c = key_cmp-total

pub returns-clause-equal : goal.returns-clause-equal
returns-clause-equal c = key_cmp-exact
