use Rattle.std.proofs.Common.{◌≡◌, length, sym, ap, ◌∙◌}
use Rattle.std.proofs.lemmas.Bool.{eqb-false, eqb-true}
use Rattle.std.proofs.lemmas.Result.{on_ok_weaker}
use Rattle.deny_rules_match.specs.Matches.{ban_of}
use Rattle.deny_spec.specs.Policy.{SpannedText}
use Rattle.std.specs.Prelude.{List}
use Rattle.deny_rules_crates.proofs.BannedLemmas.{bare_ban, has_none, has_some}
use Rattle.deny_rules_crates.proofs.banned.add_keys_of_ban.Goals as goal

pub returns-then-is_empty : goal.returns-then-is_empty
returns-then-is_empty c = λ p is.
    let ban = ban_of c.args.ban.now in
    let none : length ban.wrappers ≡ 0 =
    ap (λ (ws : List SpannedText). length ws) (sym c.wrappers_of-wrappers.ensures)
    ∙ eqb-true (length c.wrappers_of-wrappers.result.now) 0 (sym c.is_empty.ensures ∙ c.if-is_empty.true) in
    on_ok_weaker c.add_crate_keys.result (λ added. bare_ban p c.args.krates.now ban
    (has_none ban none) c.as_slice.result.now c.args.keys.now c.add_crate_keys.new.keys (c.as_slice.ensures ∙ is.places)
    added) c.add_crate_keys.ensures

pub add_wrapped_keys-requires-clause-wrapped : goal.add_wrapped_keys-requires-clause-wrapped
add_wrapped_keys-requires-clause-wrapped c =
    let ban = ban_of c.args.ban.now in
    has_some ban (λ none. eqb-false (length c.wrappers_of-wrappers.result.now) 0
    (sym c.is_empty.ensures ∙ c.if-is_empty.false)
    (ap (λ (ws : List SpannedText). length ws) c.wrappers_of-wrappers.ensures ∙ none))
