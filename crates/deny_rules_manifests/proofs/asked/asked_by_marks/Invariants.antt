use Rattle.std.proofs.Common.{◌≡◌, ◌++◌, ◌-◌, map}
use Rattle.std.specs.List.{range_with_len}
use Rattle.deny_rules_manifests.specs.private.Asked.{is_asked_at}
use Rattle.deny_rules_manifests.proofs.asked.asked_by_marks.Given as goal

abbrev pub invariant-loop-place : goal.invariant-loop-place
invariant-loop-place l =
    l.asked ++ map (is_asked_at l.krates l.marks.counts.items l.groups) (range_with_len l.place (l.end - l.place))
    ≡ map (is_asked_at l.krates l.marks.counts.items l.groups) (range_with_len 0 l.end)
