use Rattle.std.proofs.Common.{◌≡◌, ◌++◌, drop, filter}
use Rattle.deny_rules_match.specs.Marks.{mark_at}
use Rattle.deny_rules_match.proofs.marking.marked.Given as goal

abbrev pub invariant-loop-place : goal.invariant-loop-place
invariant-loop-place l =
    l.kept ++ filter (mark_at l.marks) (drop l.place-index l.places) ≡ filter (mark_at l.marks) l.places
