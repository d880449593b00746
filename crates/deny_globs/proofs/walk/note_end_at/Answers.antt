use Rattle.std.proofs.lemmas.Result.{on_ok_weaker}
use Rattle.deny_globs.proofs.WalkLemmas.{notes_end}
use Rattle.deny_globs.proofs.walk.note_end_at.Goals as goal

pub returns : goal.returns
returns c = on_ok_weaker c.note_end.result (λ n. notes_end c.args.states.now c.requires c.index-states-number.is n)
    c.note_end.ensures
