use Rattle.std.proofs.Common.{◌≡◌, ◌++◌, drop, filter_map}
use Rattle.std.specs.FinMap as finite
use Rattle.deny_rules_features.proofs.steps.roots_of.Given as goal

abbrev pub invariant-loop-name : goal.invariant-loop-name
invariant-loop-name l =
    l.roots ++ filter_map (λ w. finite.get l.numbers w.value) (drop l.name-index l.listed)
    ≡ filter_map (λ w. finite.get l.numbers w.value) l.listed
