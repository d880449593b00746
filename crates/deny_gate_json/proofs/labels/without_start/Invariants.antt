use denote.Shadow.{shadow}
use denote.Text.{Utf8}
use Rattle.std.proofs.Common.{◌≡◌, length}
use Rattle.deny_gate_json.specs.Labels.{without_start}
use Rattle.deny_gate_json.proofs.labels.without_start.Given as goal

abbrev pub invariant-loop-shorter : goal.invariant-loop-shorter
invariant-loop-shorter l = shadow (Utf8 l.rest) × (without_start l.rest ≡ without_start l.text)

abbrev pub decreases-loop-shorter : goal.decreases-loop-shorter
decreases-loop-shorter l = length l.rest
