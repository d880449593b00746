use Rattle.std.proofs.Common.{◌≡◌, ◌++◌, drop, map}
use Rattle.std.specs.List.{flat_map}
use Rattle.deny_cfg.specs.PolicyView.{policy_view}
use Rattle.deny_rules_match.specs.Matches.{ban_of}
use Rattle.deny_rules_crates.specs.private.WrappedEdges.{wrapper_hits}
use Rattle.deny_rules_crates.proofs.hits.add_wrapper_hits.Given as goal

abbrev pub invariant-loop-ban : goal.invariant-loop-ban
invariant-loop-ban l =
    l.hits ++ flat_map (wrapper_hits (policy_view l.found.cfg.now) l.found.krates.now)
    (map ban_of (drop l.ban-index l.bans))
    ≡ l.fn.hits ++ flat_map (wrapper_hits (policy_view l.found.cfg.now) l.found.krates.now) (map ban_of l.bans)
