use Rattle.std.proofs.Common.{◌≡◌}
use Rattle.deny_gate_json.specs.Graphs.{graph_value}
use Rattle.deny_gate_json.specs.private.Making.{outcome_value, outcome_weight}
use Rattle.deny_gate_json.proofs.graphs.graph_value.Given as goal

abbrev pub invariant-loop-now : goal.invariant-loop-now
invariant-loop-now l = outcome_value l.below.items l.now ≡ graph_value l.graph

abbrev pub decreases-loop-now : goal.decreases-loop-now
decreases-loop-now l = outcome_weight l.below.items l.now
