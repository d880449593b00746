use Rattle.std.proofs.Common.{List, Contains, sym, ap, ◌∙◌, subst, arith}
use Rattle.std.specs.List.{flat_map}
use Rattle.std.specs.Prelude.{map}
use Rattle.std.proofs.lemmas.List.Folds.{flat_map-map}
use Rattle.deny_base_lists.specs.Ascending.{Adds}
use Rattle.deny_base.specs.declared.key.Key.{Key}
use Rattle.deny_cfg.specs.PolicyView.{policy_view}
use Rattle.deny_rules_match.specs.Matches.{ban_of}
use Rattle.deny_rules_match.specs.declared.matches.BanMatch.{BanMatch}
use Rattle.deny_rules_crates.specs.private.Banned.{keys_of_ban}
use Rattle.deny_base_lists.proofs.Adding.{adds_each_all, adds_each_more}
use Rattle.deny_rules_match.proofs.MatchLemmas.{ban_item, ban_within}
use Rattle.deny_rules_crates.proofs.banned.add_banned_keys.Goals as goal

pub add_keys_of_ban-requires : goal.add_keys_of_ban-requires
add_keys_of_ban-requires c =
    let found = c.args.found.now in
    let p = policy_view found.cfg.now in
    let g = found.krates.now in
    ban_within p g c.ban-item.result c.are_placed.ensures
    (ban_item p g p.deny found.bans c.as_slice-bans.result.now c.loop-ban.ban-index c.ban-item.result found.bans_found
    c.as_slice-bans.ensures c.loop-ban-test.true c.ban-item.is)

pub loop-ban-preserved : goal.loop-ban-preserved
loop-ban-preserved c =
    let found = c.args.found.now in
    let p = policy_view found.cfg.now in
    let g = found.krates.now in
    let ban = c.ban-item.result in
    adds_each_more (λ (m : BanMatch). keys_of_ban p g (ban_of m)) c.as_slice-bans.result.now ban c.loop-ban.ban-index
    c.args.keys.now c.loop-ban.keys c.add_keys_of_ban.new.keys
    (omega arith) c.ban-item.is c.loop-ban.invariant (c.in_ok-add_keys_of_ban.ensures p
    (ban_item p g p.deny found.bans c.as_slice-bans.result.now c.loop-ban.ban-index ban found.bans_found
    c.as_slice-bans.ensures c.loop-ban-test.true c.ban-item.is))

pub returns : goal.returns
returns c =
    let found = c.args.found.now in
    let p = policy_view found.cfg.now in
    let g = found.krates.now in
    let bans = c.as_slice-bans.result.now in
    subst (λ (keys : List Key). Adds (Contains keys) c.args.keys.now c.loop-ban.keys)
    (sym (flat_map-map (keys_of_ban p g) ban_of bans) ∙ ap (flat_map (keys_of_ban p g))
    (ap (map ban_of) c.as_slice-bans.ensures ∙ found.bans_found.of))
    (adds_each_all (λ (m : BanMatch). keys_of_ban p g
    (ban_of m)) bans c.loop-ban.ban-index c.args.keys.now c.loop-ban.keys (omega arith) c.loop-ban.invariant)
