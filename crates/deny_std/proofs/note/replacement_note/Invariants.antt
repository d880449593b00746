use Rattle.std.proofs.Common.{◌≡◌, ◌++◌, length}
use Rattle.deny_std_table.specs.Texts.{texts_left}
use Rattle.deny_spec_report.specs.StdReplacements.{replacement_note}
use Rattle.deny_std.specs.private.Note.{lines_below}
use Rattle.deny_std.specs.private.Said.{said_of}
use Rattle.deny_std.proofs.note.replacement_note.Given as goal

abbrev pub invariant-loop-item : goal.invariant-loop-item
invariant-loop-item l =
    l.note ++ lines_below l.name l.code l.last (texts_left l.items) ≡ replacement_note l.name (said_of l.replacement)

abbrev pub decreases-loop-item : goal.decreases-loop-item
decreases-loop-item l = length l.items.items
