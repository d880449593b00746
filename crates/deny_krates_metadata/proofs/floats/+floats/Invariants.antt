use Rattle.std.proofs.Common.{◌≡◌, drop}
use Rattle.serde_json.specs.View.{items_view, members_view}
use Rattle.serde_json.specs.Written.{items_have_float, members_have_float}
use Rattle.deny_krates_metadata.proofs.floats.+floats.Given as goal

abbrev pub invariant-is_any_fractional-loop-value : goal.invariant-is_any_fractional-loop-value
invariant-is_any_fractional-loop-value l =
    items_have_float (items_view l.items.items) ≡ items_have_float (items_view (drop l.value-index l.items.items))

abbrev pub invariant-is_member_fractional-loop-name : goal.invariant-is_member_fractional-loop-name
invariant-is_member_fractional-loop-name l =
    members_have_float (members_view l.members.entries) ≡ members_have_float (members_view l._name-iterator)
