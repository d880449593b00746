use Rattle.std.proofs.Common.{◌≡◌, ◌++◌, drop, take}
use Rattle.std.specs.Prelude.{map}
use Rattle.serde_json.specs.View.{view}
use Rattle.deny_gate_json.specs.Labels.{label_value}
use Rattle.deny_gate_json.specs.Reading.{AreCounted}
use Rattle.deny_gate_json.proofs.labels.label_values.Given as goal

abbrev pub invariant-loop-label : goal.invariant-loop-label
invariant-loop-label l = (map view l.values.items ++ map (label_value l.files) (drop l.label-index l.labels)
    ≡ map (label_value l.files) l.labels)
    × AreCounted l.files (take l.label-index l.labels)
