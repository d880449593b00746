use Rattle.std.proofs.Common.{◌++◌, List, map, ap, ◌∙◌}
use Rattle.std.specs.List.{list_any}
use Rattle.std.proofs.lemmas.Result.{on_ok_weaker}
use Rattle.deny_base.specs.declared.key.Key.{Key}
use Rattle.deny_cfg.specs.PolicyView.{policy_view}
use Rattle.deny_spec_report.specs.Features.{leaves_default}
use Rattle.deny_spec.specs.Match.{matches}
use Rattle.deny_spec.specs.Policy.{FeatureEntry}
use Rattle.deny_rules_features.proofs.KeyLemmas.{default_are}
use Rattle.deny_rules_features.proofs.default_enabled.add_default_keys.Goals as goal

pub returns : goal.returns
returns c =
    let p = policy_view c.args.cfg.now in
    let g = c.args.krates.now in
    let are = default_are p g c.are_placed.ensures c.as_slice.result.now c.as_slice-2.result.now
    (c.as_slice.ensures ∙ (c.in_ok-matched.ensures
    ∙ ap (λ (es : List FeatureEntry). map (λ d. list_any (λ (e : FeatureEntry). matches e.spec d) es) g.crates)
    c.requires.of))
    (c.as_slice-2.ensures ∙ (c.in_ok-unsettled.ensures
    ∙ ap (λ (es : List FeatureEntry). map (λ d. list_any (leaves_default d) es) g.crates) c.requires.of)) in
    on_ok_weaker c.add_default_each.result
    (λ added. added ∙ ap (λ (keys : List Key). c.args.keys.now ++ keys) are) c.add_default_each.ensures
