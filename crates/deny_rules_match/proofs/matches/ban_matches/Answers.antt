use Rattle.std.proofs.Common.{◌+◌, [], List, map, take, sym, ap, subst, arith}
use Rattle.deny_cfg.specs.PolicyView.{ban_view, policy_view}
use Rattle.deny_rules_match.specs.Matches.{AreBanMatches, IsBanMatch, ban_of}
use Rattle.deny_rules_match.proofs.MatchLemmas.{all_hold, more_hold, none_hold}
use Rattle.deny_rules_match.proofs.matches.ban_matches.Goals as goal

pub loop-ban-init : goal.loop-ban-init
loop-ban-init c =
    let p = policy_view c.args.cfg.now in
    let g = c.args.krates.now in
    subst (AreBanMatches p g []) (sym c.new-bans.ensures) (none_hold ban_of (IsBanMatch p g))

pub loop-ban-preserved : goal.loop-ban-preserved
loop-ban-preserved c =
    let p = policy_view c.args.cfg.now in
    let g = c.args.krates.now in
    let denied = c.as_slice-denied.result.now in
    let i = c.loop-ban.ban-index in
    subst (AreBanMatches p g (map ban_view (take (i + 1) denied))) (sym c.in_ok-push.ensures.ok)
    (more_hold ban_of (IsBanMatch p g) ban_view denied i c.ban-item.result c.loop-ban.bans c.in_ok-ban_match.field-0
    c.loop-ban-test.true c.ban-item.is c.loop-ban.invariant (ap ban_view c.in_ok-ban_match.ensures.of)
    (c.in_ok-ban_match.ensures.is p c.requires))

pub returns : goal.returns
returns c =
    let p = policy_view c.args.cfg.now in
    let g = c.args.krates.now in
    subst (λ (bans : List _). AreBanMatches p g (map ban_view bans) c.loop-ban.bans) c.as_slice-denied.ensures
    (all_hold ban_of (IsBanMatch p g) ban_view c.as_slice-denied.result.now c.loop-ban.ban-index c.loop-ban.bans
    (omega arith) c.loop-ban.invariant)
