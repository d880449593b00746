-- What the entries on features match: crates, by their places, and the allowed features, by their names.
use Rattle.std.specs.Prelude.{◌≡◌, List}
use Rattle.deny_cfg.specs.PolicyView.{feature_view}
use Rattle.deny_spec.specs.Graph.{Graph}
use Rattle.deny_spec.specs.Match.{matches}
use Rattle.deny_spec.specs.Policy.{FeatureEntry}
use Rattle.deny_rules_match.specs.Matches.{Represent, places_of}
use Rattle.deny_rules_match.specs.Wrappers.{AreFirstSpans}
use Rattle.deny_rules_features.specs.declared.feature_match.FeatureMatch.{FeatureMatch}

abbrev pub entry_of : FeatureMatch → FeatureEntry
entry_of m = feature_view m.written.now

pub record IsFeatureMatch (g : Graph) (m : FeatureMatch) : Type 0 where
  pub places : m.places ≡ places_of g (matches (entry_of m).spec)
  pub first : AreFirstSpans (entry_of m).allow.value m.allowed

-- matches of the entries on features of a list, in their order
abbrev pub AreFeatureMatches : Graph → List FeatureEntry → List FeatureMatch → Type 0
AreFeatureMatches g = Represent entry_of (IsFeatureMatch g)
