use Rattle.std.proofs.Common.{ap, List, sym, ◌++◌}
use Rattle.serde_json.specs.View.{view}
use Rattle.std.specs.Prelude.{map}
use Rattle.deny_krates_trees.specs.declared.node.GraphNode.{GraphNode}
use Rattle.deny_gate_json.specs.Graphs.{graph_value}
use Rattle.deny_gate_json.specs.private.Making.{value_with}
use Rattle.deny_gate_json.proofs.GraphLemmas.{less_begun, whole_begun}
use Rattle.deny_gate_json.proofs.graphs.step.Goals as goal

pub returns-in_ok-push-in-Some-clause-whole : goal.returns-in_ok-push-in-Some-clause-whole
returns-in_ok-push-in-Some-clause-whole c =
    let top = c.args.top in
    whole_begun c.args.below.now.items c.push.new.self.items top _ c.begin.result c.in-Some.parent.now
    c.in_ok-push-in-Some.ensures.items c.begin.ensures.value
    (ap (λ (graphs : List GraphNode). value_with top.graph.now (map view top.done.items ++ map graph_value graphs))
    (sym c.in-Some.ensures.cases.0))

pub returns-in_ok-push-in-Some-clause-less : goal.returns-in_ok-push-in-Some-clause-less
returns-in_ok-push-in-Some-clause-less c =
    less_begun c.args.below.now.items c.push.new.self.items c.args.top _ c.begin.result c.in-Some.parent.now
    c.in_ok-push-in-Some.ensures.items c.begin.ensures.less c.in-Some.ensures.cases.0
