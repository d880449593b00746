use Rattle.std.proofs.Common.{◌≡◌, ◌++◌, drop, filter}
use Rattle.deny_cfg.specs.PolicyView.{policy_view}
use Rattle.deny_rules_features.specs.private.FeatureMatches.{entry_of}
use Rattle.deny_rules_features.specs.private.Keys.{reports_unknown_at}
use Rattle.deny_rules_features.proofs.unknown.places_reported.Given as goal

abbrev pub invariant-loop-place : goal.invariant-loop-place
invariant-loop-place l =
    l.reported ++ filter (reports_unknown_at (policy_view l.cfg) l.krates (entry_of l.found))
    (drop l.place-index l.places)
    ≡ filter (reports_unknown_at (policy_view l.cfg) l.krates (entry_of l.found)) l.places
