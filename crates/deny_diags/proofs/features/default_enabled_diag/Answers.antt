use Rattle.std.proofs.Common.{◌∙◌}
use Rattle.std.proofs.lemmas.Result.{IfOk-weaker}
use Rattle.deny_spec_report.specs.Features.{default_enabled_diag}
use Rattle.deny_diags.proofs.features.default_enabled_diag.Goals as goal

pub returns : goal.returns
unfolding default_enabled_diag
returns c = IfOk-weaker c.with_feature.result _ _
    (λ diag is. is ∙ rw (c.in_ok-diag.ensures, c.default_severity.ensures, c.in_ok-labels.ensures))
    c.with_feature.ensures
