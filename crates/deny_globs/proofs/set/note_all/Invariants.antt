use Rattle.std.proofs.Common.{◌≡◌, ◌+◌, take}
use Rattle.std.specs.Prelude.{Contains}
use Rattle.deny_globs.specs.private.Walk.{Notes}
use Rattle.deny_globs.proofs.set.note_all.Given as goal

abbrev pub invariant-loop-glob : goal.invariant-loop-glob
invariant-loop-glob g l = record {
  notes : Notes (Contains (take l.glob-index l.globs)) l.fn.fitting l.fitting;
  steps : l.steps ≡ l.fn.steps + l.glob-index;
}
