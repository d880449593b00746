use Rattle.std.proofs.Common.{◌≡◌, ◌++◌, drop, filter, not}
use Rattle.deny_rules_match.specs.Marks.{mark_at}
use Rattle.deny_rules_match.proofs.marking.unmarked.Given as goal

abbrev pub invariant-loop-place : goal.invariant-loop-place
invariant-loop-place l = l.rest ++ filter (λ place. not (mark_at l.marks place)) (drop l.place-index l.places) ≡ filter
    (λ place. not (mark_at l.marks place)) l.places
