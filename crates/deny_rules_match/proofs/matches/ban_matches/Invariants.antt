use Rattle.std.proofs.Common.{map, take}
use Rattle.deny_cfg.specs.PolicyView.{ban_view, policy_view}
use Rattle.deny_rules_match.specs.Matches.{AreBanMatches}
use Rattle.deny_rules_match.proofs.matches.ban_matches.Given as goal

abbrev pub invariant-loop-ban : goal.invariant-loop-ban
invariant-loop-ban l = AreBanMatches (policy_view l.cfg) l.krates (map ban_view (take l.ban-index l.denied)) l.bans
