use Rattle.std.proofs.Common.{◌++◌, List, refl, ap, ◌∙◌, arith}
use Rattle.std.specs.List.{flat_map}
use Rattle.std.specs.Prelude.{map}
use Rattle.deny_cfg.specs.PolicyView.{policy_view}
use Rattle.deny_spec.specs.Policy.{Ban}
use Rattle.deny_base_lists.proofs.Loops.{flat-step, pushed_all}
use Rattle.deny_rules_match.specs.Matches.{ban_of}
use Rattle.deny_rules_match.specs.declared.matches.BanMatch.{BanMatch}
use Rattle.deny_rules_match.proofs.MatchLemmas.{ban_item, ban_within}
use Rattle.deny_rules_crates.specs.private.WrappedEdges.{wrapper_hits}
use Rattle.deny_rules_crates.proofs.hits.add_wrapper_hits.Goals as goal

pub add_hits_of_ban-requires : goal.add_hits_of_ban-requires
add_hits_of_ban-requires c =
    let found = c.args.found.now in
    let p = policy_view found.cfg.now in
    let g = found.krates.now in
    ban_within p g c.ban-item.result c.are_placed.ensures
    (ban_item p g p.deny found.bans c.as_slice-bans.result.now c.loop-ban.ban-index c.ban-item.result found.bans_found
    c.as_slice-bans.ensures c.loop-ban-test.true c.ban-item.is)

pub loop-ban-preserved : goal.loop-ban-preserved
loop-ban-preserved c =
    let found = c.args.found.now in
    let p = policy_view found.cfg.now in
    let g = found.krates.now in
    let ban = c.ban-item.result in
    flat-step (wrapper_hits p g) ban_of c.as_slice-bans.result.now ban c.loop-ban.ban-index c.loop-ban.hits
    c.add_hits_of_ban.new.hits _ c.loop-ban-test.true c.ban-item.is
    (c.in_ok-add_hits_of_ban.ensures p
    (ban_item p g p.deny found.bans c.as_slice-bans.result.now c.loop-ban.ban-index ban found.bans_found
    c.as_slice-bans.ensures c.loop-ban-test.true c.ban-item.is)) c.loop-ban.invariant

pub returns : goal.returns
returns c =
    let found = c.args.found.now in
    let p = policy_view found.cfg.now in
    let g = found.krates.now in
    pushed_all (λ (ms : List BanMatch). flat_map (wrapper_hits p g) (map ban_of ms)) c.as_slice-bans.result.now
    c.loop-ban.ban-index c.loop-ban.hits _ refl (omega arith) c.loop-ban.invariant
    ∙ ap (λ (bans : List Ban). c.args.hits.now ++ flat_map (wrapper_hits p g) bans)
    (ap (map ban_of) c.as_slice-bans.ensures ∙ found.bans_found.of)
