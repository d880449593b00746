use Rattle.std.proofs.Common.{◌≡◌, drop}
use Rattle.json.specs.Value as borrowed
use Rattle.deny_krates_metadata.specs.private.Borrowed.{members_after, members_view, sorted_view}
use Rattle.deny_krates_metadata.proofs.feature.by_name.Given as goal

abbrev pub invariant-loop-member : goal.invariant-loop-member
invariant-loop-member l = members_view l.members
    ≡ members_after (sorted_view l.sorted.entries) (borrowed.members_view (drop l.member-index l.members))
