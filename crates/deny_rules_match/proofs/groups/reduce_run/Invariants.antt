use Rattle.std.proofs.Common.{◌≡◌, ◌++◌, ◌-◌, map}
use Rattle.std.specs.List.{range_with_len}
use Rattle.deny_rules_match.specs.private.Groups.{is_left_at}
use Rattle.deny_rules_match.proofs.groups.reduce_run.Given as goal

abbrev pub invariant-loop-place : goal.invariant-loop-place
invariant-loop-place l =
    l.reduced ++ map (is_left_at l.krates l.candidates l.name l.alone) (range_with_len l.place (l.fn.run.end - l.place))
    ≡ l.fn.reduced ++ map (is_left_at l.krates l.candidates l.name l.alone)
    (range_with_len l.fn.run.start (l.fn.run.end - l.fn.run.start))
