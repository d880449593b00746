use Rattle.std.proofs.Common.{◌≡◌, ◌++◌, drop, filter}
use Rattle.deny_cfg.specs.PolicyView.{policy_view}
use Rattle.deny_rules_features.specs.private.FeatureMatches.{entry_of}
use Rattle.deny_rules_features.specs.private.Listed.{is_mismatched_at}
use Rattle.deny_rules_features.proofs.mismatched.mismatched.Given as goal

abbrev pub invariant-loop-place : goal.invariant-loop-place
invariant-loop-place l =
    l.others ++ filter (is_mismatched_at (policy_view l.cfg) l.krates (entry_of l.found))
    (drop l.place-index l.places)
    ≡ filter (is_mismatched_at (policy_view l.cfg) l.krates (entry_of l.found)) l.places
