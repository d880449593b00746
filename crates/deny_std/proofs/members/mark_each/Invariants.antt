use Rattle.std.proofs.Common.{take}
use Rattle.deny_std.specs.private.Members.{GainsMarks, is_among}
use Rattle.deny_std.proofs.members.mark_each.Given as goal

abbrev pub invariant-loop-place : goal.invariant-loop-place
invariant-loop-place l =
    GainsMarks (is_among (take l.place-index l.places)) l.initial.marks-inside.vec.items l.marks-inside.vec.items
