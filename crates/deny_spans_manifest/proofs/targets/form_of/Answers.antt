use Rattle.std.proofs.Common.{ap, inr, ◌∙◌}
use Rattle.std.proofs.lemmas.Result.{IfOk-weaker}
use Rattle.deny_spans_manifest.specs.private.Targets.{IsForm}
use Rattle.deny_spans_manifest.proofs.targets.form_of.Goals as goal
use Rattle.std.specs.Prelude.{Err}

pub returns-in-Err-Bad : goal.returns-in-Err-Bad
returns-in-Err-Bad c = IfOk-weaker c.whole_key.result _ (IsForm c.args.key.now)
    (λ words is. inr (c.parse.ensures.bad (c.in-Err-Bad.is ∙ ap (λ e. Err e) c.in-Err-Bad.field-0-is), is))
    c.whole_key.ensures
