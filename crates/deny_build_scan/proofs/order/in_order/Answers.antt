use Rattle.deny_build_scan.proofs.OrderLemmas.{file_cmp-exact, paths_listed}
use Rattle.deny_build_scan.proofs.order.in_order.Goals as goal

pub put_in_order-requires : goal.put_in_order-requires
put_in_order-requires c = file_cmp-exact

pub returns : goal.returns
returns c =
    paths_listed c.in_ok-files.files c.put_in_order.new.list c.args.paths c.in_ok-files.ensures
    c.in_ok-put_in_order.ensures.ok
