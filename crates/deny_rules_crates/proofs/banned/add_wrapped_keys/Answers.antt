use Rattle.std.proofs.Common.{◌++◌, List, filter, map, not, ap, ◌∙◌}
use Rattle.std.proofs.lemmas.Result.{on_ok_weaker}
use Rattle.deny_base.specs.declared.code.Code.TheVariants.{Banned, UnusedWrapper}
use Rattle.deny_base.specs.declared.span.Span.{Span}
use Rattle.deny_rules_match.specs.Matches.{ban_of}
use Rattle.deny_rules_match.proofs.MatchLemmas.{ban_first}
use Rattle.deny_spec.specs.Keys.{crate_key, unused_key}
use Rattle.deny_spec.specs.Policy.{SpannedText}
use Rattle.deny_rules_crates.specs.private.Banned.{is_hit}
use Rattle.deny_rules_crates.proofs.BannedLemmas.{wrapped_ban}
use Rattle.deny_rules_crates.proofs.banned.add_wrapped_keys.Goals as goal

pub returns : goal.returns
returns c = λ p is.
    let g = c.args.krates.now in
    let ban = ban_of c.args.ban.now in
    let hits = c.in_ok-hits.hits in
    let banned = c.in_ok-add_crate_keys.ensures
    ∙ ap (λ ps. c.args.keys.now ++ map (λ place. crate_key Banned place ban.spec.span) ps)
    (c.as_slice.ensures ∙ c.in_ok-banned.ensures) in
    on_ok_weaker c.add_unused_keys.result
    (λ unused. wrapped_ban p g ban c.requires.wrapped c.args.ban.now.spans (ban_first p g c.args.ban.now is)
    c.as_slice-places.result.now hits c.args.keys.now c.add_crate_keys.new.keys c.add_reported_keys.new.keys
    c.add_unused_keys.new.keys (c.as_slice-places.ensures ∙ is.places)
    banned c.in_ok-add_reported_keys.ensures c.in_ok-hits.ensures
    (unused
    ∙ (ap (λ (ws : List SpannedText). c.add_reported_keys.new.keys
    ++ map (λ (w : SpannedText). unused_key UnusedWrapper w.span)
    (filter (λ w. not (is_hit c.as_slice-2.result.now w.span)) ws)) c.wrappers_of-wrappers.ensures
    ∙ ap (λ (hs : List Span). c.add_reported_keys.new.keys ++ map (λ (w : SpannedText). unused_key UnusedWrapper w.span)
    (filter (λ w. not (is_hit hs w.span)) ban.wrappers)) c.as_slice-2.ensures)))
    c.add_unused_keys.ensures
