use Rattle.std.proofs.Common.{◌≤◌, length, arith}
use Rattle.deny_krates_graph.specs.private.Graph.{IsKeptNode, kept_cmp}
use Rattle.deny_krates_graph.proofs.GraphLemmas.{lists_of}
use Rattle.deny_base_lists.proofs.Sorted.{length-ascending}
use Rattle.deny_krates_graph.proofs.graph.kept_of.Goals as goal

pub returns-clause-lists : goal.returns-clause-lists
returns-clause-lists c = lists_of kept_cmp (IsKeptNode c.args.packages.now c.args.rows.now c.args.marks.now) _ _
    c.in_ok-put_in_order.ensures.ok c.in_ok-kept.ensures.whole c.in_ok-kept.ensures.sound

pub returns-clause-few : goal.returns-clause-few
returns-clause-few c =
    let shorter : length c.put_in_order.new.list ≤ length c.in_ok-kept.kept = length-ascending
    c.kept_order.ensures.total _ _ c.in_ok-put_in_order.ensures.ok.ascending c.in_ok-put_in_order.ensures.ok.sound in
    let few : length c.in_ok-kept.kept ≤ length c.args.rows.now = c.in_ok-kept.ensures.few in
    omega arith
