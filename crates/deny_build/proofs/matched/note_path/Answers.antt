use Rattle.std.proofs.Common.{◌∙◌, None, Some, ap}
use Rattle.std.specs.Prelude.{cond}
use Rattle.std.specs.Option.{option_or}
use Rattle.std.proofs.lemmas.Result.{on_ok_weaker}
use Rattle.deny_build.specs.private.FileMatch.{number_at}
use Rattle.deny_build.proofs.MatchLemmas.{no_path_matched, path_matched}
use Rattle.deny_build.proofs.matched.note_path.Goals as goal

pub returns-in-Some : goal.returns-in-Some
returns-in-Some c = on_ok_weaker c.note_span.result
    (λ gains span. gains.at span
    ∙ ap (λ b. option_or (number_at c.args.firsts.now span) (cond b (Some c.args.number) None))
    (path_matched span c.args.matched.now c.in-Some.path c.in-Some.is))
    c.note_span.ensures

pub returns-in-None : goal.returns-in-None
returns-in-None c = λ span.
    no_path_matched span c.args.matched.now (number_at c.args.firsts.now span) c.args.number c.in-None.is
