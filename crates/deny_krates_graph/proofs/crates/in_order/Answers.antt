use Rattle.deny_base_lists.proofs.Orders.{text_cmp-exact}
use Rattle.deny_krates_graph.proofs.crates.in_order.Goals as goal

pub put_in_order-requires : goal.put_in_order-requires
put_in_order-requires c = text_cmp-exact
