use Rattle.std.proofs.Common.{[], Contains}
use Rattle.deny_base_lists.proofs.Adding.{adds_list, adds_then, lists_added}
use Rattle.deny_cfg.specs.Clashes.{IsBuildClash, IsClash, clash_cmp, clashes_in}
use Rattle.deny_cfg.proofs.clashes.ordered_clashes.Goals as goal

pub returns : goal.returns
returns c =
    let source = c.args.source.now in
    let config = c.args.config.now in
    lists_added clash_cmp (IsClash source config) c.add_build_clashes.new.clashes c.put_in_order.new.list
    (adds_then (Contains (clashes_in config)) (IsBuildClash source config.build) [] c.in_ok-clashes.clashes
    c.add_build_clashes.new.clashes (adds_list [] c.in_ok-clashes.clashes (clashes_in config) c.in_ok-clashes.ensures)
    c.in_ok-add_build_clashes.ensures)
    c.in_ok-put_in_order.ensures.ok
