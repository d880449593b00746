use Rattle.std.proofs.Common.{arith}
use Rattle.std.specs.FinMap as finite
use Rattle.deny_spec.specs.Text.{same_text}
use Rattle.deny_build.proofs.SetLemmas.{noted_more}
use Rattle.deny_build.proofs.matched.note_globs.Goals as goal

pub loop-glob-preserved : goal.loop-glob-preserved
loop-glob-preserved c = λ text. noted_more (finite.get c.args.firsts.now text) (finite.get c.loop-glob.firsts text)
    (finite.get c.note_glob.new.firsts text) (same_text text) c.args.globs.now c.glob-item.result c.loop-glob.glob-index
    c.args.number (omega arith) c.glob-item.is (c.loop-glob.invariant text) (c.in_ok-note_glob.ensures text)
