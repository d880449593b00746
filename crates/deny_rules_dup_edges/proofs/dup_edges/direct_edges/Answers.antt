use Rattle.std.proofs.Common.{[], get_or}
use Rattle.std.proofs.lemmas.List.{get_or_default}
use Rattle.deny_rules_dup_edges.proofs.EdgeLemmas.{to_more, to_all}
use Rattle.deny_rules_dup_edges.proofs.dup_edges.direct_edges.Goals as goal

pub loop-child-preserved : goal.loop-child-preserved
loop-child-preserved c =
    let g = c.args.krates.now in
    let children = c.args.children.now in
    let i = c.loop-child.child-index in
    let child = get_or children i 0 in
    to_more g children i child [] c.loop-child.edges c.add_edges_to.new.edges c.loop-child-test.true
    (get_or_default children i 0 child c.loop-child-test.true) c.loop-child.invariant c.in_ok-add_edges_to.ensures

pub returns : goal.returns
returns c = to_all c.args.krates.now c.args.children.now c.loop-child.child-index [] c.loop-child.edges
    c.loop-child-test.false c.loop-child.invariant
