use Rattle.std.proofs.Common.{ap, arith}
use Rattle.std.specs.Prelude.{sum_by}
use Rattle.deny_gate_json.specs.private.Weight.{weight}
use Rattle.deny_gate_json.proofs.GraphLemmas.{weight_of_parents}
use Rattle.deny_gate_json.proofs.graphs.begin.Goals as goal

pub returns-clause-less : goal.returns-clause-less
returns-clause-less c =
    omega (arith, weight_of_parents c.args.graph.now, ap (sum_by weight) c.as_slice.ensures)
