use Rattle.std.proofs.Common.{◌≡◌, ◌++◌, drop, map}
use Rattle.deny_rules_match.specs.private.Marks.{is_near}
use Rattle.deny_rules_match.proofs.facts.near.Given as goal

abbrev pub invariant-loop-distance : goal.invariant-loop-distance
invariant-loop-distance l =
    l.marks ++ map (is_near l.depth) (drop l.distance-index l.distances) ≡ map (is_near l.depth) l.distances
