use Rattle.std.proofs.Common.{◌≡◌, map, take}
use Rattle.deny_spec_report.specs.Features.{unlisted_note}
use Rattle.deny_diags.proofs.features.unlisted_notes.Given as goal

abbrev pub invariant-loop-feature : goal.invariant-loop-feature
invariant-loop-feature l = l.notes ≡ map unlisted_note (take l.feature-index l.features)
