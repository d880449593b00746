use Rattle.std.proofs.Common.{List, ℕ, get_or, sym, ◌∙◌, subst, arith}
use Rattle.std.proofs.lemmas.Grind.{get_or_default_zero}
use Rattle.std.proofs.lemmas.List.{take_all}
use Rattle.deny_base_lists.specs.Ascending.{Adds}
use Rattle.deny_cfg.specs.PolicyView.{policy_view}
use Rattle.deny_rules_features.specs.private.FeatureMatches.{entry_of}
use Rattle.deny_rules_features.specs.private.Keys.{IsNotAllowedAt, OfOne}
use Rattle.deny_rules_features.proofs.NotAllowedLemmas.{adds_none, adds_one_more}
use Rattle.deny_rules_features.proofs.not_allowed.add_not_allowed_crates.Goals as goal

pub loop-place-init : goal.loop-place-init
loop-place-init c =
    adds_none (IsNotAllowedAt (policy_view c.args.cfg.now) c.args.krates.now (entry_of c.args.found.now))
    c.args.keys.now

pub loop-place-preserved : goal.loop-place-preserved
loop-place-preserved c =
    let places = c.as_slice-places.result.now in
    let i = c.loop-place.place-index in
    adds_one_more (IsNotAllowedAt (policy_view c.args.cfg.now) c.args.krates.now (entry_of c.args.found.now)) places
    (get_or places i 0) i c.args.keys.now c.loop-place.keys c.add_not_allowed_at.new.keys c.loop-place-test.true
    (sym (get_or_default_zero places i (get_or places i 0) c.loop-place-test.true)) c.loop-place.invariant
    c.in_ok-add_not_allowed_at.ensures

pub returns : goal.returns
returns c =
    let P = IsNotAllowedAt (policy_view c.args.cfg.now) c.args.krates.now (entry_of c.args.found.now) in
    subst (λ (ns : List ℕ). Adds (OfOne P ns) c.args.keys.now c.loop-place.keys)
    (take_all c.loop-place.place-index c.as_slice-places.result.now (omega arith) ∙ c.as_slice-places.ensures)
    c.loop-place.invariant
