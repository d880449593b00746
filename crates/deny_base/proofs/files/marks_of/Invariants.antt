use Rattle.std.proofs.Common.{◌≡◌, ◌*◌, take}
use Rattle.deny_base.specs.private.Marks.{AreMarks, location_after}
use Rattle.deny_base.proofs.files.marks_of.Given as goal

abbrev pub invariant-loop-mark : goal.invariant-loop-mark
invariant-loop-mark l = (l.at ≡ location_after (take (256 * l.mark) l.text)) × AreMarks l.text l.mark l.marks.items
