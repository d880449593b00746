use Rattle.std.proofs.Common.{rules, ◌++◌, List, sym, ap, ◌∙◌, append-nil}
use Rattle.std.proofs.lemmas.Result.{on_ok_weaker}
use Rattle.deny_base.specs.declared.key.Key.{Key}
use Rattle.deny_cfg.specs.PolicyView.{policy_view}
use Rattle.deny_rules_features.specs.private.FeatureMatches.{entry_of}
use Rattle.deny_rules_features.proofs.KeyLemmas.{mismatched_are, none_mismatched}
use Rattle.deny_rules_features.proofs.mismatched.add_mismatched_of_entry.Goals as goal

pub returns-then-not-found : goal.returns-then-not-found
returns-then-not-found c =
    sym (ap (λ (keys : List Key). c.args.keys.now ++ keys)
    (none_mismatched (policy_view c.args.cfg.now) c.args.krates.now c.are_placed.ensures (entry_of c.args.found.now)
    (search rules)) ∙ append-nil c.args.keys.now)

pub returns : goal.returns
returns c =
    let p = policy_view c.args.cfg.now in
    let g = c.args.krates.now in
    let e = entry_of c.args.found.now in
    let are = mismatched_are p g c.are_placed.ensures e c.args.found.now.places c.as_slice.result.now
    (search rules) c.requires.places (c.as_slice.ensures ∙ c.in_ok-others.ensures) in
    on_ok_weaker c.add_crate_keys.result
    (λ added. added ∙ ap (λ (keys : List Key). c.args.keys.now ++ keys) are) c.add_crate_keys.ensures
