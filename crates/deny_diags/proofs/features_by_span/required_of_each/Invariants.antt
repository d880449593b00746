use Rattle.std.proofs.Common.{drop, map}
use Rattle.std.specs.List.{flat_map}
use Rattle.deny_cfg_build.specs.BuildingView.{bypass_view}
use Rattle.deny_diags_parts.specs.BySpan.{IsBySpan}
use Rattle.deny_diags.proofs.features_by_span.required_of_each.Given as goal

abbrev pub invariant-loop-number : goal.invariant-loop-number
invariant-loop-number l =
    IsBySpan (λ w. w.span) (flat_map (λ y. y.required) (map bypass_view (drop l.number l.bypasses))) l.found
