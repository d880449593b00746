use Rattle.std.proofs.Common.{◌≡◌, ◌++◌, ◌<◌, drop, filter}
use Rattle.std.specs.Prelude.{All, nat_lt}
use Rattle.deny_rules_dup_edges.proofs.above.places_below.Given as goal

abbrev pub invariant-loop-place : goal.invariant-loop-place
invariant-loop-place l = record {
  below : All (λ place. place < l.end) l.known;
  are : l.known ++ filter (λ place. nat_lt place l.end) (drop l.place-index l.places) ≡ filter
      (λ place. nat_lt place l.end) l.places;
}
