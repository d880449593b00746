use Rattle.std.proofs.Common.{arith, refl, subst}
use Rattle.std.proofs.lemmas.List.Elements.{Contains-get_or}
use Rattle.deny_globs.specs.private.Walk.{HasEnd, Notes}
use Rattle.deny_globs.proofs.MarkedLemmas.{take_all}
use Rattle.deny_globs.proofs.WalkLemmas.{notes_start, notes_more}
use Rattle.deny_globs.proofs.walk.note_ends.Goals as goal

pub loop-number-init : goal.loop-number-init
loop-number-init c = notes_start c.args.fitting.now

pub note_end_at-requires : goal.note_end_at-requires
note_end_at-requires c = c.requires _ (Contains-get_or c.args.marked.now c.loop-number.number-index 0 (omega arith))

pub loop-number-preserved : goal.loop-number-preserved
loop-number-preserved c = notes_more c.args.marked.now (omega arith) refl c.loop-number.invariant
    c.in_ok-note_end_at.ensures

pub returns : goal.returns
returns c =
    subst (λ l. Notes (HasEnd c.args.states.now l) c.args.fitting.now c.loop-number.fitting)
    (take_all c.args.marked.now c.loop-number.number-index (omega arith)) c.loop-number.invariant
