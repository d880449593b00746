use Rattle.std.proofs.Common.{◌≡◌, ◌++◌, drop}
use Rattle.std.specs.Prelude.{map}
use Rattle.serde_json.specs.View.{view}
use Rattle.deny_gate_json.specs.Diagnostics.{diagnostic_value}
use Rattle.deny_cli.proofs.stops.diagnostic_values.Given as goal

abbrev pub invariant-loop-diagnostic : goal.invariant-loop-diagnostic
invariant-loop-diagnostic l =
    map view l.values.items ++ map (diagnostic_value l.files) (drop l.diagnostic-index l.clashes)
    ≡ map (diagnostic_value l.files) l.clashes
