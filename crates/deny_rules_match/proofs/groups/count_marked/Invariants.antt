use Rattle.std.proofs.Common.{◌≡◌, ◌+◌, ◌-◌, filter, length}
use Rattle.std.specs.List.{range_with_len}
use Rattle.deny_rules_match.specs.Marks.{mark_at}
use Rattle.deny_rules_match.proofs.groups.count_marked.Given as goal

abbrev pub invariant-loop-place : goal.invariant-loop-place
invariant-loop-place l =
    l.count + length (filter (mark_at l.marks) (range_with_len l.place (l.end - l.place)))
    ≡ length (filter (mark_at l.marks) (range_with_len l.start (l.end - l.start)))
