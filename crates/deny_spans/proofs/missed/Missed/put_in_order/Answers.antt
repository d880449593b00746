use Rattle.deny_base_lists.proofs.Orders.{text_cmp-exact}
use Rattle.deny_spans.proofs.missed.Missed.put_in_order.Goals as goal

pub put_in_order-requires-2 : goal.put_in_order-requires-2
put_in_order-requires-2 c = text_cmp-exact
