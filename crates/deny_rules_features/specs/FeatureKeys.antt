-- The keys of all rules on features.
use Rattle.std.specs.Prelude.{◌⊎◌, Contains}
use Rattle.deny_base.specs.declared.key.Key.{Key}
use Rattle.deny_spec.specs.Graph.{Graph}
use Rattle.deny_spec.specs.Policy.{Policy}
use Rattle.deny_spec_report.specs.Features.{IsFeatureNotAllowed, default_enabled_keys, feature_banned_keys}
use Rattle.deny_spec_report.specs.Features.{mismatched_keys, unknown_feature_keys}

-- the key is one of a rule on features
abbrev pub IsOfFeatures : Policy → Graph → Key → Type 0
IsOfFeatures p g key = Contains (mismatched_keys p g) key
    ⊎ (IsFeatureNotAllowed p g key
    ⊎ (Contains (feature_banned_keys p g) key
    ⊎ (Contains (unknown_feature_keys p g) key
    ⊎ Contains (default_enabled_keys p g) key)))
