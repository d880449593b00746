use Rattle.std.proofs.Common.{◌≡◌, ◌++◌, drop}
use Rattle.std.specs.List.{flat_map}
use Rattle.deny_cfg.specs.PolicyView.{feature_view}
use Rattle.deny_rules_features.specs.private.Keys.{unknown_keys_at}
use Rattle.deny_rules_features.proofs.unknown.add_unknown_crates.Given as goal

abbrev pub invariant-loop-place : goal.invariant-loop-place
invariant-loop-place l =
    l.keys ++ flat_map (unknown_keys_at l.krates ((feature_view l.entry).allow.value ++ (feature_view l.entry).deny))
    (drop l.place-index l.places)
    ≡ l.fn.keys ++ flat_map (unknown_keys_at l.krates
    ((feature_view l.entry).allow.value ++ (feature_view l.entry).deny))
    l.places
