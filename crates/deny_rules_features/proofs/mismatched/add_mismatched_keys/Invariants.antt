use Rattle.std.proofs.Common.{◌≡◌, ◌++◌, drop, map}
use Rattle.std.specs.List.{flat_map}
use Rattle.deny_cfg.specs.PolicyView.{policy_view}
use Rattle.deny_spec_report.specs.Features.{mismatched_keys_of}
use Rattle.deny_rules_features.specs.private.FeatureMatches.{entry_of}
use Rattle.deny_rules_features.proofs.mismatched.add_mismatched_keys.Given as goal

abbrev pub invariant-loop-entry : goal.invariant-loop-entry
invariant-loop-entry l =
    l.keys ++ flat_map (mismatched_keys_of (policy_view l.cfg) l.krates)
    (map entry_of (drop l.entry-index l.found))
    ≡ l.fn.keys ++ flat_map (mismatched_keys_of (policy_view l.cfg) l.krates) (map entry_of l.found)
