use Rattle.std.proofs.Common.{ap, List, ◌∙◌, ◌++◌}
use Rattle.serde_json.specs.Data.{Data}
use Rattle.serde_json.specs.View.{view}
use Rattle.std.specs.Prelude.{map}
use Rattle.deny_gate_json.specs.Graphs.{graph_value}
use Rattle.deny_gate_json.specs.private.Making.{value_with}
use Rattle.deny_gate_json.proofs.GraphLemmas.{one_more, whole_filled}
use Rattle.deny_gate_json.proofs.graphs.hand_on.Goals as goal

pub returns-in_ok-push-in-Some-clause-whole : goal.returns-in_ok-push-in-Some-clause-whole
returns-in_ok-push-in-Some-clause-whole c =
    let waiting = c.in-Some.waiting in
    let rest = map graph_value waiting.rest.now in
    whole_filled c.args.below.now.items c.pop.new.self.items waiting _ (view c.args.value) c.in-Some.ensures.items
    (ap (value_with waiting.graph.now)
    (ap (λ (ds : List Data). ds ++ rest) (ap (map view) (c.in_ok-push-in-Some.ensures.items))
    ∙ one_more waiting.done.items c.args.value rest))
