use denote.Shadow.{shadow}
use denote.Text.{Utf8}
use Rattle.std.proofs.Common.{◌≡◌, length}
use Rattle.deny_gate_json.specs.Labels.{without_end}
use Rattle.deny_gate_json.proofs.labels.without_end.Given as goal

abbrev pub invariant-loop-shorter : goal.invariant-loop-shorter
invariant-loop-shorter l = shadow (Utf8 l.rest) × (without_end l.rest ≡ without_end l.text)

abbrev pub decreases-loop-shorter : goal.decreases-loop-shorter
decreases-loop-shorter l = length l.rest
