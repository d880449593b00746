use Rattle.std.proofs.Common.{◌≡◌, ◌++◌, drop}
use Rattle.std.specs.Prelude.{map}
use Rattle.serde_json.specs.View.{view}
use Rattle.deny_gate_json.specs.Graphs.{graph_value}
use Rattle.deny_gate_json.proofs.graphs.graph_values.Given as goal

abbrev pub invariant-loop-graph : goal.invariant-loop-graph
invariant-loop-graph l = map view l.values.items ++ map graph_value (drop l.graph-index l.graphs)
    ≡ map graph_value l.graphs
