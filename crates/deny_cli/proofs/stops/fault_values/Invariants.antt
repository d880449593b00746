use Rattle.std.proofs.Common.{◌≡◌, ◌++◌, All, drop, take}
use Rattle.std.specs.Prelude.{map}
use Rattle.serde_json.specs.View.{view}
use Rattle.deny_cli.specs.Stops.{fault_value}
use Rattle.deny_cli.specs.private.Stops.{HasSpan}
use Rattle.deny_cli.proofs.stops.fault_values.Given as goal

abbrev pub invariant-loop-fault : goal.invariant-loop-fault
invariant-loop-fault l = (map view l.values.items ++ map fault_value (drop l.fault-index l.faults)
    ≡ map fault_value l.faults)
    × All HasSpan (take l.fault-index l.faults)
