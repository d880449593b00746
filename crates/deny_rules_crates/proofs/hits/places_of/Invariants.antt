use Rattle.std.proofs.Common.{◌≡◌, ◌++◌, drop, map}
use Rattle.deny_rules_crates.proofs.hits.places_of.Given as goal

abbrev pub invariant-loop-dependent : goal.invariant-loop-dependent
invariant-loop-dependent l =
    l.places ++ map (λ d. d.place) (drop l.dependent-index l.dependents) ≡ map (λ d. d.place) l.dependents
