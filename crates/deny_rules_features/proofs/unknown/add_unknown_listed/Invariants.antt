use Rattle.std.proofs.Common.{◌≡◌, ◌++◌, drop, filter, map, not}
use Rattle.deny_base.specs.declared.code.Code.TheVariants.{UnknownFeature}
use Rattle.deny_spec.specs.Keys.{crate_key}
use Rattle.deny_rules_features.specs.private.Crates.{has_feature_at}
use Rattle.deny_rules_features.proofs.unknown.add_unknown_listed.Given as goal

abbrev pub invariant-loop-name : goal.invariant-loop-name
invariant-loop-name l =
    l.keys ++ map (λ w. crate_key UnknownFeature l.place w.span)
    (filter (λ w. not (has_feature_at l.krates l.place w.value)) (drop l.name-index l.listed))
    ≡ l.fn.keys ++ map (λ w. crate_key UnknownFeature l.place w.span)
    (filter (λ w. not (has_feature_at l.krates l.place w.value)) l.listed)
