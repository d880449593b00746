use Rattle.deny_rules_dup_edges.proofs.EdgeLemmas.{adds_between}
use Rattle.deny_rules_dup_edges.proofs.dup_edges.add_edges_between.Goals as goal

pub returns : goal.returns
returns c =
    adds_between c.args.krates.now c.args.parent c.args.child c.args.edges.now c.add_edge.new.edges
    c.add_edge-2.new.edges c.add_edge-3.new.edges
    c.in_ok-add_edge.ensures c.in_ok-add_edge-2.ensures c.in_ok-add_edge-3.ensures
