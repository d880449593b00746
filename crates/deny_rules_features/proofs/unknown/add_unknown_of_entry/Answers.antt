use Rattle.std.proofs.Common.{◌++◌, List, ap, ◌∙◌}
use Rattle.std.proofs.lemmas.Result.{on_ok_weaker}
use Rattle.deny_base.specs.declared.key.Key.{Key}
use Rattle.deny_cfg.specs.PolicyView.{policy_view}
use Rattle.deny_rules_features.specs.private.FeatureMatches.{entry_of}
use Rattle.deny_rules_features.proofs.KeyLemmas.{unknown_are}
use Rattle.deny_rules_features.proofs.unknown.add_unknown_of_entry.Goals as goal

pub returns : goal.returns
returns c =
    let p = policy_view c.args.cfg.now in
    let g = c.args.krates.now in
    let e = entry_of c.args.found.now in
    let are = unknown_are p g c.are_placed.ensures e c.args.found.now.places c.as_slice.result.now
    c.requires.places (c.as_slice.ensures ∙ c.in_ok-reported.ensures) in
    on_ok_weaker c.add_unknown_crates.result
    (λ added. added ∙ ap (λ (keys : List Key). c.args.keys.now ++ keys) are) c.add_unknown_crates.ensures
