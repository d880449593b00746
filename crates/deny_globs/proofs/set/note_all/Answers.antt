use Rattle.std.proofs.Common.{arith, refl, subst}
use Rattle.std.specs.Prelude.{Contains}
use Rattle.deny_globs.specs.private.Walk.{Notes}
use Rattle.deny_globs.proofs.MarkedLemmas.{take_all}
use Rattle.deny_globs.proofs.WalkLemmas.{notes_unlisted, notes_listed, notes_one}
use Rattle.deny_globs.proofs.set.note_all.Goals as goal

pub loop-glob-init : goal.loop-glob-init
loop-glob-init g c = record { notes = notes_unlisted c.args.fitting.now; steps = omega arith }

pub loop-glob-preserved : goal.loop-glob-preserved
loop-glob-preserved g c = record {
  notes = notes_listed c.args.globs.now (omega arith) refl c.loop-glob.invariant.notes
      (notes_one c.in_ok-push.ensures.ok);
  steps = omega (arith, c.tick.ensures, c.loop-glob.invariant.steps);
}

pub returns-clause-notes : goal.returns-clause-notes
returns-clause-notes g c =
    subst (λ l. Notes (Contains l) c.args.fitting.now c.loop-glob.fitting)
    (take_all c.args.globs.now c.loop-glob.glob-index (omega arith)) c.loop-glob.invariant.notes
