use Rattle.std.proofs.Common.{◌∙◌, Some, None, ap, sym}
use Rattle.std.specs.Prelude.{cond}
use Rattle.std.specs.FinMap as finite
use Rattle.std.specs.Option.{option_or}
use Rattle.std.proofs.lemmas.Result.{on_ok_weaker}
use Rattle.deny_build.specs.private.FileMatch.{matched_view}
use Rattle.deny_build.proofs.MatchLemmas.{glob_matched}
use Rattle.deny_build.proofs.matched.note.Goals as goal

pub returns : goal.returns
returns c = on_ok_weaker c.note_globs.result
    (λ is text. is text ∙ ap (λ b. option_or (finite.get c.args.firsts.now text) (cond b (Some c.args.number) None))
    (glob_matched (matched_view c.args.matched.now) text c.as_slice.result.now c.as_slice.ensures
    (sym c.leaves_to_globs.ensures ∙ c.if-not-leaves_to_globs.false)))
    c.note_globs.ensures
