use Rattle.std.proofs.Common.{◌⊎◌}
use Rattle.std.specs.Prelude.{Contains}
use Rattle.std.proofs.lemmas.Result.{on_ok_weaker}
use Rattle.deny_cfg.specs.PolicyView.{policy_view}
use Rattle.deny_spec_report.specs.Features.{IsFeatureNotAllowed, default_enabled_keys, feature_banned_keys}
use Rattle.deny_spec_report.specs.Features.{mismatched_keys, unknown_feature_keys}
use Rattle.deny_base_lists.proofs.Adding.{adds_list, adds_then}
use Rattle.deny_rules_features.proofs.feature_keys.add_feature_keys.Goals as goal

pub returns : goal.returns
returns c =
    let p = policy_view c.args.cfg.now in
    let g = c.args.krates.now in
    let at0 = c.args.keys.now in
    let at1 = c.add_mismatched_keys.new.keys in
    let at2 = c.add_not_allowed_keys.new.keys in
    let at3 = c.add_banned_keys.new.keys in
    let at4 = c.add_unknown_keys.new.keys in
    let at5 = c.add_default_keys.new.keys in
    on_ok_weaker c.add_default_keys.result
    (λ last.
    adds_then (Contains (mismatched_keys p g)) (λ key. IsFeatureNotAllowed p g key
    ⊎ (Contains (feature_banned_keys p g) key
    ⊎ (Contains (unknown_feature_keys p g) key ⊎ Contains (default_enabled_keys p g) key)))
    at0 at1 at5 (adds_list at0 at1 (mismatched_keys p g) c.in_ok-add_mismatched_keys.ensures)
    (adds_then (IsFeatureNotAllowed p g) (λ key. Contains (feature_banned_keys p g) key
    ⊎ (Contains (unknown_feature_keys p g) key ⊎ Contains (default_enabled_keys p g) key))
    at1 at2 at5 c.in_ok-add_not_allowed_keys.ensures
    (adds_then (Contains (feature_banned_keys p g)) (λ key. Contains (unknown_feature_keys p g) key
    ⊎ Contains (default_enabled_keys p g) key)
    at2 at3 at5 (adds_list at2 at3 (feature_banned_keys p g) c.in_ok-add_banned_keys.ensures)
    (adds_then (Contains (unknown_feature_keys p g)) (Contains (default_enabled_keys p g)) at3 at4 at5
    (adds_list at3 at4 (unknown_feature_keys p g) c.in_ok-add_unknown_keys.ensures)
    (adds_list at4 at5 (default_enabled_keys p g) last)))))
    c.add_default_keys.ensures
