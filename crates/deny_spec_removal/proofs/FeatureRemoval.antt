-- The keys of features hold still where entries of other parts are taken out.
use Rattle.std.proofs.Common.{◌≡◌, List, Option, false, refl}
use Rattle.std.proofs.Math.Logic.{⊎_map}
use Rattle.deny_base.specs.declared.entry.EntryId.{EntryId}
use Rattle.deny_base.specs.declared.key.Key.{Key}
use Rattle.deny_spec.specs.Building.{Building}
use Rattle.deny_spec.specs.Graph.{Graph}
use Rattle.deny_spec.specs.Licensing.{Licensing}
use Rattle.deny_spec.specs.Policy.{Ban, Entry, Policy, Replacing, Root}
use Rattle.deny_spec_report.specs.Circumstances.{Circumstances}
use Rattle.deny_spec_report.specs.Facts.{Facts}
use Rattle.deny_spec_report.specs.Features.{IsFeatureNotAllowed, checks_default, default_enabled_keys}
use Rattle.deny_spec_report.specs.Features.{default_enabled_keys_at, default_enabled_keys_of, default_level}
use Rattle.deny_spec_report.specs.Features.{has_default_apart, is_default_reported, is_mismatch_reported, is_mismatched}
use Rattle.deny_spec_report.specs.Features.{is_unlisted, mismatched_keys, mismatched_keys_of, reports_unknown}
use Rattle.deny_spec_report.specs.Features.{unknown_feature_keys, unknown_feature_keys_at, unknown_feature_keys_of}
use Rattle.deny_spec_report.specs.Features.{unknown_features, unlisted}
use Rattle.deny_spec_report.specs.Packages.{build_keys_in}
use Rattle.deny_spec_removal.proofs.KeyParts.{StillListed, same_listed}
use Rattle.deny_spec_removal.proofs.PolicyParts.{FeaturesHold, with_lists, with_parts}

module _ (p : Policy) (g : Graph) (deny : List Ban) (skip : List Entry) (skip_tree : List Root)
    (replacing : Option Replacing) where
  abbrev other : Policy
  other = with_lists p deny skip skip_tree replacing

  mismatched_same : mismatched_keys other g ≡ mismatched_keys p g
  unfolding mismatched_keys_of is_mismatch_reported is_mismatched unlisted is_unlisted has_default_apart default_level
  mismatched_same = refl

  unknown_same : unknown_feature_keys other g ≡ unknown_feature_keys p g
  unfolding unknown_feature_keys_of unknown_feature_keys_at unknown_features reports_unknown is_mismatched unlisted
      is_unlisted has_default_apart default_level
  unknown_same = refl

  default_same : default_enabled_keys other g ≡ default_enabled_keys p g
  unfolding default_enabled_keys_at default_enabled_keys_of is_default_reported checks_default default_level
  default_same = refl

  not_allowed_there : (key : Key) → IsFeatureNotAllowed p g key → IsFeatureNotAllowed other g key
  unfolding unlisted is_unlisted has_default_apart default_level
  not_allowed_there key is = record {
    entry = is.entry;
    written = is.written;
    krate = is.krate;
    known = is.known;
    feature = is.feature;
    is_not_allowed = record {
      matched_by = is.is_not_allowed.matched_by;
      inexact = is.is_not_allowed.inexact;
      some = is.is_not_allowed.some;
      unlisted = is.is_not_allowed.unlisted;
      unreached = is.is_not_allowed.unreached;
    };
    is = is.is;
  }

-- the first lists take the place of others again
not_allowed_back : (p : Policy) (g : Graph) (deny : List Ban) (skip : List Entry) (skip_tree : List Root)
    (replacing : Option Replacing) (key : Key)
    → IsFeatureNotAllowed (with_lists p deny skip skip_tree replacing) g key → IsFeatureNotAllowed p g key
not_allowed_back p g deny skip skip_tree replacing key is = not_allowed_there
    (with_lists p deny skip skip_tree replacing) g p.deny p.skip p.skip_tree p.replacing key is

-- an unknown feature may also be one that a bypass requires, whose key is among those of builds
pub features_hold : (c : Circumstances) (facts : Facts) (taken : List EntryId) (key : Key) (deny : List Ban)
    (skip : List Entry) (skip_tree : List Root) (replacing : Option Replacing) (licensing : Option Licensing)
    (building : Option Building)
    → StillListed false (build_keys_in c facts)
    (build_keys_in (with_parts c deny skip skip_tree replacing licensing building) facts) key
    → FeaturesHold c (with_parts c deny skip skip_tree replacing licensing building) facts taken key
features_hold c facts taken key deny skip skip_tree replacing licensing building required =
    let rest : Policy = with_lists c.policy deny skip skip_tree replacing in
    let unknown : StillListed false (unknown_feature_keys c.policy c.graph) (unknown_feature_keys rest c.graph) key =
    same_listed (unknown_feature_keys c.policy c.graph) (unknown_feature_keys rest c.graph) key false refl
    (unknown_same c.policy c.graph deny skip skip_tree replacing) in
    record {
      mismatch = λ of. same_listed (mismatched_keys c.policy c.graph) (mismatched_keys rest c.graph) key false refl
          (mismatched_same c.policy c.graph deny skip skip_tree replacing);
      not_explicitly_allowed = λ of. (
        λ unnamed is. not_allowed_there c.policy c.graph deny skip skip_tree replacing key is,
        λ is. (not_allowed_back c.policy c.graph deny skip skip_tree replacing key is, refl),
      );
      feature_banned = λ of. (λ unnamed is. is, λ is. (is, refl));
      unknown = λ of. (
        λ unnamed is. ⊎_map (unknown.0 refl) (required.0 refl) is,
        λ is. (⊎_map (λ it. (unknown.1 it).0) (λ it. (required.1 it).0) is, refl),
      );
      default_enabled = λ of. same_listed (default_enabled_keys c.policy c.graph) (default_enabled_keys rest c.graph)
          key false refl (default_same c.policy c.graph deny skip skip_tree replacing);
    }
