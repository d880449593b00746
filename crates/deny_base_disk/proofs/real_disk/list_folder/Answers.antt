use Rattle.deny_base_lists.proofs.Orders.{text_cmp-exact}
use Rattle.deny_base_disk.proofs.real_disk.list_folder.Goals as goal

pub put_records_in_order-requires : goal.put_records_in_order-requires
put_records_in_order-requires c = text_cmp-exact
