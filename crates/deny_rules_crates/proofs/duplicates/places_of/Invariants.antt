use Rattle.std.proofs.Common.{◌≡◌, ◌++◌, drop, map}
use Rattle.deny_rules_crates.specs.private.Duplicates.{placed_view}
use Rattle.deny_rules_crates.proofs.duplicates.places_of.Given as goal

abbrev pub invariant-loop-crate_at : goal.invariant-loop-crate_at
invariant-loop-crate_at l =
    l.places ++ map (λ c. c.place) (map placed_view (drop l.crate_at-index l.candidates)) ≡ map (λ c. c.place)
    (map placed_view l.candidates)
