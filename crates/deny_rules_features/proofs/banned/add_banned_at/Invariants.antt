use Rattle.std.proofs.Common.{◌≡◌, ◌++◌, drop, filter, map}
use Rattle.deny_base.specs.declared.code.Code.TheVariants.{FeatureBanned}
use Rattle.deny_spec.specs.Keys.{crate_key}
use Rattle.deny_rules_features.specs.private.Listed.{is_among}
use Rattle.deny_rules_features.proofs.banned.add_banned_at.Given as goal

abbrev pub invariant-loop-name : goal.invariant-loop-name
invariant-loop-name l =
    l.keys ++ map (λ w. crate_key FeatureBanned l.place w.span)
    (filter (is_among l.enabled) (drop l.name-index l.denied))
    ≡ l.fn.keys ++ map (λ w. crate_key FeatureBanned l.place w.span) (filter (is_among l.enabled) l.denied)
