use Rattle.std.proofs.Common.{◌≡◌, ◌++◌, drop, filter, is_some, map, not}
use Rattle.std.specs.FinMap as finite
use Rattle.deny_spec_report.specs.Features.{not_allowed_feature_key}
use Rattle.deny_rules_features.proofs.not_allowed.add_unreached.Given as goal

abbrev pub invariant-loop-feature : goal.invariant-loop-feature
invariant-loop-feature l =
    l.keys ++ map (not_allowed_feature_key l.place l.fn.entry)
    (filter (λ feature. not (is_some (finite.get l.reached feature))) (drop l.feature-index l.features))
    ≡ l.fn.keys ++ map (not_allowed_feature_key l.place l.fn.entry)
    (filter (λ feature. not (is_some (finite.get l.reached feature))) l.features)
