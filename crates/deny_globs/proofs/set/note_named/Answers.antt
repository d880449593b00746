use Rattle.std.proofs.Common.{arith, ap, length, subst, sym, ◌∙◌}
use Rattle.std.proofs.lemmas.Result.{on_ok_weaker}
use Rattle.deny_globs.specs.private.Index.{globs_of}
use Rattle.std.specs.Prelude.{Contains}
use Rattle.deny_globs.specs.private.Walk.{Notes}
use Rattle.deny_base_lists.proofs.SearchLemmas.{named_at}
use Rattle.deny_globs.proofs.SetLemmas.{named_bound, notes_named, notes_gap}
use Rattle.deny_globs.proofs.set.note_named.Goals as goal

pub returns-in-Ok-clause-steps : goal.returns-in-Ok-clause-steps
returns-in-Ok-clause-steps g c globs hits d x covers less =
    let extension = c.index-extensions-index.result in
    let at = named_at c.in-Ok.ensures.found c.index-extensions-index.is in
    let bound = named_bound c.args.extensions.now c.args.name.now c.in-Ok.index c.args.steps.now
    c.find_extension.new.steps extension at.0 at.1 c.find_extension.ensures.steps globs hits d x covers less in
    omega (
      arith,
      bound,
      c.note_all.ensures.steps,
      ap length c.as_slice.ensures,
      ap (λ e. length (globs_of e)) c.index-extensions-index.is,
    )

pub returns-in-Ok-clause-notes : goal.returns-in-Ok-clause-notes
returns-in-Ok-clause-notes g c =
    let at = named_at c.in-Ok.ensures.found c.index-extensions-index.is in
    on_ok_weaker c.note_all.result
    (λ n. notes_named c.in-Ok.index c.index-extensions-index.result at.0 at.1
    (subst (λ l. Notes (Contains l) c.args.fitting.now c.note_all.new.fitting) (c.as_slice.ensures
    ∙ ap globs_of (sym c.index-extensions-index.is)) n))
    c.note_all.ensures.notes

pub returns-in-Err-clause-notes : goal.returns-in-Err-clause-notes
returns-in-Err-clause-notes g c = notes_gap c.in-Err.ensures.absent
