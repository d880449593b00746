use Rattle.std.proofs.Common.{map, take}
use Rattle.deny_cfg.specs.PolicyView.{feature_view}
use Rattle.deny_rules_features.specs.private.FeatureMatches.{AreFeatureMatches}
use Rattle.deny_rules_features.proofs.feature_match.feature_matches.Given as goal

abbrev pub invariant-loop-entry : goal.invariant-loop-entry
invariant-loop-entry l = AreFeatureMatches l.krates (map feature_view (take l.entry-index l.entries)) l.found
