use Rattle.std.proofs.lemmas.Result.{on_ok_weaker}
use Rattle.deny_toml_tree.proofs.FaultLaws.{fault_cmp-exact, in_order-only}
use Rattle.deny_toml_tree.proofs.faults.put_faults_in_order.Goals as goal

pub put_in_order-requires : goal.put_in_order-requires
put_in_order-requires c = fault_cmp-exact

pub returns : goal.returns
returns c = on_ok_weaker c.put_in_order.result (in_order-only c.args.faults.now c.put_in_order.new.list)
    c.put_in_order.ensures.ok
