use Rattle.std.proofs.Common.{drop, map}
use Rattle.std.specs.List.{flat_map}
use Rattle.deny_cfg.specs.PolicyView.{feature_view}
use Rattle.deny_spec_report.specs.Features.{features_of}
use Rattle.deny_diags_parts.specs.BySpan.{PutsBefore}
use Rattle.deny_diags.proofs.features_by_span.put_listed.Given as goal

abbrev pub invariant-loop-number : goal.invariant-loop-number
invariant-loop-number l = PutsBefore (λ w. w.span)
    (flat_map features_of (map feature_view (drop l.number l.entries))) l.fn.found l.found
