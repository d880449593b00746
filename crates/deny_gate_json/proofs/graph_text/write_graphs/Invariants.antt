use Rattle.std.proofs.Common.{◌≡◌, ◌++◌}
use Rattle.std.specs.Prelude.{sum_by}
use Rattle.deny_gate_json.specs.private.Writing.{all_text, graphs_text, waiting_weight}
use Rattle.deny_gate_json.proofs.graph_text.write_graphs.Given as goal

abbrev pub invariant-loop-top : goal.invariant-loop-top
invariant-loop-top l = l.out ++ all_text l.below.items ≡ l.fn.out ++ graphs_text l.graphs

abbrev pub decreases-loop-top : goal.decreases-loop-top
decreases-loop-top l = sum_by waiting_weight l.below.items
