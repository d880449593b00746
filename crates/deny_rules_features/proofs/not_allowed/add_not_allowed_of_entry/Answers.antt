use Rattle.std.proofs.Common.{inl, inr, length, sym, ap, ◌∙◌}
use Rattle.std.specs.Prelude.{◌==◌}
use Rattle.std.proofs.lemmas.Bool.{eqb-true}
use Rattle.std.proofs.lemmas.Result.{on_ok_weaker}
use Rattle.deny_cfg.specs.PolicyView.{policy_view}
use Rattle.deny_spec.specs.Policy.{SpannedText}
use Rattle.std.proofs.Common.{List}
use Rattle.deny_rules_features.specs.private.FeatureMatches.{entry_of}
use Rattle.deny_rules_features.proofs.NotAllowedLemmas.{among_are, none_by}
use Rattle.deny_rules_features.proofs.not_allowed.add_not_allowed_of_entry.Goals as goal

pub returns-then-found : goal.returns-then-found
returns-then-found c = none_by (policy_view c.args.cfg.now) c.args.krates.now c.are_placed.ensures
    (entry_of c.args.found.now) c.args.keys.now (inl c.if-found.true)

pub returns-then-is_empty : goal.returns-then-is_empty
returns-then-is_empty c = none_by (policy_view c.args.cfg.now) c.args.krates.now c.are_placed.ensures
    (entry_of c.args.found.now) c.args.keys.now
    (inr (ap length (sym c.as_slice-listed.ensures)
    ∙ eqb-true (length c.as_slice-listed.result.now) 0 (sym c.is_empty.ensures ∙ c.if-is_empty.true)))

pub returns : goal.returns
returns c =
    let some = ap (λ (listed : List SpannedText). length listed == 0) (sym c.as_slice-listed.ensures)
    ∙ (sym c.is_empty.ensures ∙ c.if-is_empty.false) in
    on_ok_weaker c.add_not_allowed_crates.result
    (λ adds. among_are (policy_view c.args.cfg.now) c.args.krates.now c.are_placed.ensures
    (entry_of c.args.found.now)
    c.args.found.now.places c.args.keys.now c.add_not_allowed_crates.new.keys c.if-found.false some
    c.requires.places adds) c.add_not_allowed_crates.ensures
