use Rattle.std.proofs.Common.{List, subst, arith}
use Rattle.std.proofs.lemmas.List.{take_all}
use Rattle.deny_base_lists.specs.Ascending.{Adds}
use Rattle.deny_cfg.specs.PolicyView.{policy_view}
use Rattle.deny_rules_features.specs.declared.feature_match.FeatureMatch.{FeatureMatch}
use Rattle.deny_rules_features.specs.private.FeatureMatches.{entry_of}
use Rattle.deny_rules_features.specs.private.Keys.{IsNotAllowedBy, OfOne}
use Rattle.deny_rules_features.proofs.NotAllowedLemmas.{adds_none, adds_one_more, all_are}
use Rattle.deny_rules_features.proofs.not_allowed.add_not_allowed_keys.Goals as goal

pub loop-entry-init : goal.loop-entry-init
loop-entry-init c =
    adds_none (λ (m : FeatureMatch). IsNotAllowedBy (policy_view c.args.cfg.now) c.args.krates.now (entry_of m))
    c.args.keys.now

pub loop-entry-preserved : goal.loop-entry-preserved
loop-entry-preserved c =
    adds_one_more (λ (m : FeatureMatch). IsNotAllowedBy (policy_view c.args.cfg.now) c.args.krates.now (entry_of m))
    c.args.found.now c.entry-item.result c.loop-entry.entry-index c.args.keys.now c.loop-entry.keys
    c.add_not_allowed_of_entry.new.keys c.loop-entry-test.true c.entry-item.is c.loop-entry.invariant
    c.in_ok-add_not_allowed_of_entry.ensures

pub returns : goal.returns
returns c =
    let p = policy_view c.args.cfg.now in
    let g = c.args.krates.now in
    let found = c.args.found.now in
    let P = λ (m : FeatureMatch). IsNotAllowedBy p g (entry_of m) in
    all_are p g entry_of found c.args.keys.now c.loop-entry.keys c.requires.of
    (subst (λ (ms : List FeatureMatch). Adds (OfOne P ms) c.args.keys.now c.loop-entry.keys)
    (take_all c.loop-entry.entry-index found (omega arith)) c.loop-entry.invariant)
