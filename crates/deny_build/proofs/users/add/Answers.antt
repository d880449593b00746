use Rattle.std.proofs.Common.{◌∙◌, ◌++◌, ◌∷◌, [], Option, ap, append-nil, false, sym}
use Rattle.std.specs.Prelude.{cond}
use Rattle.std.specs.Option.{option_map_or}
use Rattle.std.proofs.lemmas.Result.{on_ok_weaker}
use Rattle.deny_base.specs.declared.span.Span.{Span}
use Rattle.deny_spec.specs.Wrappers.{same_span}
use Rattle.deny_build.specs.private.UsersOf.{users_at}
use Rattle.deny_build.proofs.users.add.Goals as goal

pub returns-in-Some : goal.returns-in-Some
returns-in-Some c =
    let at = c.args.at.now in
    on_ok_weaker c.add_spanned.result
    (λ is asked. is asked ∙ ap (λ (o : Option Span). users_at c.args.groups.now asked
    ++ cond (option_map_or (λ own. same_span own asked) o false) (at ∷ []) [])
    (sym c.in-Some.is ∙ c.span_used.ensures))
    c.add_spanned.ensures

pub returns-in-None : goal.returns-in-None
returns-in-None c = λ asked.
    let at = c.args.at.now in
    sym (append-nil (users_at c.args.groups.now asked))
    ∙ ap (λ (o : Option Span). users_at c.args.groups.now asked
    ++ cond (option_map_or (λ own. same_span own asked) o false) (at ∷ []) []) (sym c.in-None.is ∙ c.span_used.ensures)
