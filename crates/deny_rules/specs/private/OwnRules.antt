-- The rules of the bans check: those on crates whose keys are lists, and the others.
use Rattle.std.specs.Prelude.{◌⊎◌, Contains}
use Rattle.deny_base.specs.declared.key.Key.{Key}
use Rattle.deny_spec.specs.Duplicates.{IsDuplicate}
use Rattle.deny_spec_report.specs.Circumstances.{Circumstances}
use Rattle.deny_spec_report.specs.Facts.{Facts}
use Rattle.deny_spec_report.specs.Packages.{build_keys_in}
use Rattle.deny_rules_crates.specs.Rules.{ban_rules, keys_of_rules, skip_rules}
use Rattle.deny_rules_features.specs.FeatureKeys.{IsOfFeatures}
use Rattle.deny_rules_manifests.specs.ManifestKeys.{IsOfManifests}

-- the key holds by one of the rules on crates, their features, manifests, and packages
abbrev pub IsByRule : Circumstances → Facts → Key → Type 0
IsByRule c facts key = Contains (keys_of_rules (ban_rules c.policy c.graph)) key
    ⊎ (Contains (keys_of_rules (skip_rules c.policy c.graph facts.chains)) key
    ⊎ (IsDuplicate c.policy c.graph facts.chains key
    ⊎ (IsOfFeatures c.policy c.graph key
    ⊎ (IsOfManifests c.policy c.graph facts.chains c.view key
    ⊎ Contains (build_keys_in c facts) key))))
