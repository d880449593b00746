use Rattle.std.proofs.Common.{◌≡◌, drop, is_some, map}
use Rattle.std.specs.List.{list_any}
use Rattle.deny_base.specs.declared.span.Span.{Span}
use Rattle.deny_cfg_build.specs.BuildingView.{bypass_view}
use Rattle.deny_spec_report.specs.PackageDiags.{is_sum_of_script}
use Rattle.deny_diags_parts.specs.BySpan.{found_at}
use Rattle.deny_diags_build.proofs.sums.sums_of.Given as goal

abbrev pub invariant-loop-number : goal.invariant-loop-number
invariant-loop-number l = (span : Span)
    → is_some (found_at l.sums span) ≡ list_any (is_sum_of_script span) (map bypass_view (drop l.number l.bypasses))
