use Rattle.std.proofs.Common.{◌≡◌, drop}
use Rattle.json.specs.Value.{items_view, members_view}
use Rattle.deny_krates_metadata.specs.private.Borrowed.{are_items_whole, are_members_whole}
use Rattle.deny_krates_metadata.proofs.whole.+whole.Given as goal

abbrev pub invariant-are_items_whole-loop-value : goal.invariant-are_items_whole-loop-value
invariant-are_items_whole-loop-value l =
    are_items_whole (items_view l.items.items) ≡ are_items_whole (items_view (drop l.value-index l.items.items))

abbrev pub invariant-are_members_whole-loop-member : goal.invariant-are_members_whole-loop-member
invariant-are_members_whole-loop-member l = are_members_whole (members_view l.members.items)
    ≡ are_members_whole (members_view (drop l.member-index l.members.items))
