use Rattle.deny_spec_report.specs.Features.{feature_not_allowed_diag}
use Rattle.deny_diags.proofs.features.feature_not_allowed_diag.Goals as goal

pub returns : goal.returns
unfolding feature_not_allowed_diag
returns c = rw (
  c.with_features.ensures,
  c.new.ensures,
  c.in_ok-diag.ensures,
  c.in_ok-labels.ensures,
  c.as_str.ensures,
)
