use Rattle.std.proofs.Common.{refl, sym, ◌∙◌}
use Rattle.std.proofs.lemmas.Result.{on_ok_weaker}
use Rattle.deny_globs.proofs.WalkLemmas.{notes_ended, notes_not_ended}
use Rattle.deny_globs.proofs.walk.note_end.Goals as goal

pub returns-in-Some : goal.returns-in-Some
returns-in-Some c = on_ok_weaker c.push.result
    (λ e. notes_ended c.args.state.now (sym c.end_of.ensures ∙ c.in-Some.is) e) c.push.ensures.ok

pub returns-in-None : goal.returns-in-None
returns-in-None c = notes_not_ended c.args.state.now (sym c.end_of.ensures ∙ c.in-None.is) refl
