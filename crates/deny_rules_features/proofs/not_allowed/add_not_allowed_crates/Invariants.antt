use Rattle.std.proofs.Common.{take}
use Rattle.deny_base_lists.specs.Ascending.{Adds}
use Rattle.deny_cfg.specs.PolicyView.{policy_view}
use Rattle.deny_rules_features.specs.private.FeatureMatches.{entry_of}
use Rattle.deny_rules_features.specs.private.Keys.{IsNotAllowedAt, OfOne}
use Rattle.deny_rules_features.proofs.not_allowed.add_not_allowed_crates.Given as goal

abbrev pub invariant-loop-place : goal.invariant-loop-place
invariant-loop-place l =
    Adds (OfOne (IsNotAllowedAt (policy_view l.cfg) l.krates (entry_of l.found)) (take l.place-index l.places))
    l.fn.keys l.keys
