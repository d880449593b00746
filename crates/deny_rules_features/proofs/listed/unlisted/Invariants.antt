use Rattle.std.proofs.Common.{◌≡◌, ◌++◌, drop, filter}
use Rattle.deny_rules_features.specs.private.Listed.{is_unlisted_by}
use Rattle.deny_rules_features.proofs.listed.unlisted.Given as goal

abbrev pub invariant-loop-feature : goal.invariant-loop-feature
invariant-loop-feature l =
    l.features ++ filter (is_unlisted_by l.allowed l.apart) (drop l.feature-index l.enabled)
    ≡ filter (is_unlisted_by l.allowed l.apart) l.enabled
