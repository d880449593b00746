use Rattle.std.proofs.Common.{◌≡◌, ◌++◌, drop, map}
use Rattle.deny_spec.specs.Keys.{crate_key}
use Rattle.deny_build.proofs.script_keys.add_feature_keys.Given as goal

abbrev pub invariant-loop-feature : goal.invariant-loop-feature
invariant-loop-feature l =
    l.keys ++ map (λ w. crate_key l.code l.place w.now.span) (drop l.feature-index l.features)
    ≡ l.fn.keys ++ map (λ w. crate_key l.code l.place w.now.span) l.features
