use Rattle.std.proofs.Common.{◌≡◌, List, [], map, drop}
use Rattle.deny_toml_tree.specs.Clash.{Segment, clash_in, first_of, member_line, clash_after}
use Rattle.deny_toml_tree.specs.private.Slots.{Reports}
use Rattle.deny_toml_tree.proofs.clash.+clashes.Given as goal

abbrev pub invariant-check_elements-loop-element : goal.invariant-check_elements-loop-element
invariant-check_elements-loop-element l = first_of (map clash_in l.elements) ≡ first_of
    (map clash_in (drop l.element-index l.elements))

abbrev pub invariant-check_members-loop-member : goal.invariant-check_members-loop-member
invariant-check_members-loop-member l =
    (now : List Segment) × (clash_after [] 0 (map member_line l.members) ≡ clash_after now 0
    (map member_line (drop l.member-index l.members))) × Reports l.slots now
