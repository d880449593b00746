use Rattle.std.proofs.Common.{◌∙◌}
use Rattle.std.proofs.lemmas.Result.{IfOk-weaker}
use Rattle.deny_spec_report.specs.Features.{feature_banned_diag}
use Rattle.deny_diags.proofs.features.feature_banned_diag.Goals as goal

pub returns : goal.returns
unfolding feature_banned_diag
returns c = IfOk-weaker c.with_feature.result _ _
    (λ diag is. is ∙ rw (c.in_ok-diag.ensures, c.in_ok-labels.ensures, c.feature_at-feature.ensures))
    c.with_feature.ensures
