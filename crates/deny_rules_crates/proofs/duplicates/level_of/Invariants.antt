use Rattle.std.proofs.Common.{◌≡◌, drop, map}
use Rattle.std.specs.List.{list_any}
use Rattle.deny_rules_crates.specs.private.Duplicates.{placed_view}
use Rattle.deny_rules_match.specs.Marks.{marked}
use Rattle.deny_rules_crates.proofs.duplicates.level_of.Given as goal

abbrev pub invariant-loop-crate_at : goal.invariant-loop-crate_at
invariant-loop-crate_at l =
    list_any (marked l.policy.denied.now) (map placed_view (drop l.crate_at-index l.candidates))
    ≡ list_any (marked l.policy.denied.now) (map placed_view l.candidates)
