use Rattle.deny_base.proofs.KeyEqual.{span_cmp-exact, span_cmp-total}
use Rattle.deny_rules_crates.proofs.banned.span_order.Goals as goal

pub returns-clause-total : goal.returns-clause-total
returns-clause-total c = span_cmp-total

pub returns-clause-equal : goal.returns-clause-equal
returns-clause-equal c = span_cmp-exact
