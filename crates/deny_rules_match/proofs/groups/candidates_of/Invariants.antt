use Rattle.std.proofs.Common.{◌≡◌, ◌++◌, ◌-◌, map}
use Rattle.std.specs.List.{range_with_len}
use Rattle.deny_rules_match.specs.private.Groups.{may_duplicate_at}
use Rattle.deny_rules_match.proofs.groups.candidates_of.Given as goal

abbrev pub invariant-loop-place : goal.invariant-loop-place
invariant-loop-place l =
    l.candidates ++ map (may_duplicate_at l.counts l.skipped l.in_skipped_tree)
    (range_with_len l.place (l.size - l.place))
    ≡ map (may_duplicate_at l.counts l.skipped l.in_skipped_tree) (range_with_len 0 l.size)
