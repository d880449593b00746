use Rattle.std.proofs.Common.{take}
use Rattle.deny_base_lists.specs.Ascending.{Adds}
use Rattle.deny_cfg.specs.PolicyView.{policy_view}
use Rattle.deny_rules_features.specs.private.FeatureMatches.{entry_of}
use Rattle.deny_rules_features.specs.private.Keys.{IsNotAllowedBy, OfOne}
use Rattle.deny_rules_features.proofs.not_allowed.add_not_allowed_keys.Given as goal

abbrev pub invariant-loop-entry : goal.invariant-loop-entry
invariant-loop-entry l =
    Adds (OfOne (λ m. IsNotAllowedBy (policy_view l.cfg) l.krates (entry_of m)) (take l.entry-index l.found))
    l.fn.keys l.keys
