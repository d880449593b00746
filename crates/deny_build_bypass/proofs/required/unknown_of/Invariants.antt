use Rattle.std.proofs.Common.{◌≡◌, ◌++◌, drop, filter, is_some, map, not}
use Rattle.std.specs.FinMap as finite
use Rattle.deny_build_bypass.proofs.required.unknown_of.Given as goal

abbrev pub invariant-loop-feature : goal.invariant-loop-feature
invariant-loop-feature l =
    map (λ w. w.now) l.unknown.items
    ++ filter (λ w. not (is_some (finite.get l.features w.value))) (drop l.feature-index l.required)
    ≡ filter (λ w. not (is_some (finite.get l.features w.value))) l.required
