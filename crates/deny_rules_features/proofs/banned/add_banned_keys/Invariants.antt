use Rattle.std.proofs.Common.{◌≡◌, ◌++◌, drop, map}
use Rattle.std.specs.List.{flat_map}
use Rattle.deny_spec_report.specs.Features.{feature_banned_keys_of}
use Rattle.deny_rules_features.specs.private.FeatureMatches.{entry_of}
use Rattle.deny_rules_features.proofs.banned.add_banned_keys.Given as goal

abbrev pub invariant-loop-entry : goal.invariant-loop-entry
invariant-loop-entry l =
    l.keys ++ flat_map (feature_banned_keys_of l.krates) (map entry_of (drop l.entry-index l.found))
    ≡ l.fn.keys ++ flat_map (feature_banned_keys_of l.krates) (map entry_of l.found)
