use Rattle.std.proofs.Common.{Contains, take}
use Rattle.std.specs.List.{flat_map}
use Rattle.deny_base_lists.specs.Ascending.{Adds}
use Rattle.deny_cfg.specs.PolicyView.{policy_view}
use Rattle.deny_rules_match.specs.Matches.{ban_of}
use Rattle.deny_rules_crates.specs.private.Banned.{keys_of_ban}
use Rattle.deny_rules_crates.proofs.banned.add_banned_keys.Given as goal

abbrev pub invariant-loop-ban : goal.invariant-loop-ban
invariant-loop-ban l = Adds (Contains (flat_map (λ ban. keys_of_ban (policy_view l.found.cfg.now) l.found.krates.now
    (ban_of ban)) (take l.ban-index l.bans))) l.fn.keys l.keys
