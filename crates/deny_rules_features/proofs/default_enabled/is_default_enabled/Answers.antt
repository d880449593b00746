use Rattle.std.proofs.Common.{ap, ◌∙◌}
use Rattle.std.specs.List.{list_any}
use Rattle.deny_spec_report.specs.Features.{default_feature}
use Rattle.deny_spec.specs.Text.{same_text}
use Rattle.deny_rules_features.specs.private.Keys.{is_default_enabled_at}
use Rattle.deny_rules_features.proofs.KeyLemmas.{default_flips}
use Rattle.deny_rules_features.proofs.default_enabled.is_default_enabled.Goals as goal

pub returns : goal.returns
unfolding is_default_enabled_at
returns c = c.has_default.ensures ∙ (default_flips c.enabled_at.result.now
    ∙ ap (list_any (same_text default_feature)) c.enabled_at.ensures.enabled)
