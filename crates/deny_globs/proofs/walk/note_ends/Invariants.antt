use Rattle.std.proofs.Common.{take}
use Rattle.deny_globs.specs.private.Walk.{HasEnd, Notes}
use Rattle.deny_globs.proofs.walk.note_ends.Given as goal

abbrev pub invariant-loop-number : goal.invariant-loop-number
invariant-loop-number l = Notes (HasEnd l.states (take l.number-index l.marked)) l.fn.fitting l.fitting
