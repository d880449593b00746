use Rattle.deny_cfg.proofs.ClashLaws.{clash_cmp-exact}
use Rattle.deny_cfg.proofs.clash.clash_order.Goals as goal

pub returns-clause-equal : goal.returns-clause-equal
returns-clause-equal c = clash_cmp-exact
