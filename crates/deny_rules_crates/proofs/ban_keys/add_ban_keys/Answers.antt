use Rattle.std.proofs.Common.{refl, ◌∙◌}
use Rattle.std.proofs.lemmas.Result.{on_ok_weaker}
use Rattle.deny_cfg.specs.PolicyView.{policy_view}
use Rattle.deny_rules_crates.proofs.BanKeysLemmas.{all_ban_keys}
use Rattle.deny_rules_crates.proofs.ban_keys.add_ban_keys.Goals as goal

pub add_allowed_keys-requires : goal.add_allowed_keys-requires
add_allowed_keys-requires c = c.as_slice.ensures ∙ c.args.found.now.exempted

pub returns : goal.returns
returns c =
    let found = c.args.found.now in
    let p = policy_view found.cfg.now in
    on_ok_weaker c.add_allowed_keys.result
    (λ added. all_ban_keys p found.krates.now p.deny c.args.keys.now c.add_banned_keys.new.keys
    c.add_allowed_keys.new.keys refl c.in_ok-add_banned_keys.ensures added)
    c.add_allowed_keys.ensures
