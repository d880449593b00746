use Rattle.std.proofs.Common.{Bool, List, sym, ap, ◌∙◌}
use Rattle.deny_spdx.specs.Truth.{truth}
use Rattle.deny_krates.specs.Crates.{crate_view}
use Rattle.deny_cfg.specs.LicensingView.{licensing_view}
use Rattle.deny_gate_licenses.proofs.JudgementLemmas.{judged-is}
use Rattle.deny_gate_licenses.proofs.judgement.of_expression.Goals as goal

pub returns-then-evaluate : goal.returns-then-evaluate
returns-then-evaluate c =
    let e = c.args.expression.now in
    judged-is (licensing_view c.args.granting.now.cfg.now) (crate_view 0 c.args.krate.now) e c.requirements.result.now
    c.in_ok-answers.answers _ c.in_ok-answers.ensures c.requirements.ensures
    (ap (λ (bs : List Bool). truth bs e.tree) (sym c.as_slice.ensures) ∙ (sym c.evaluate.ensures ∙ c.if-evaluate.true))

pub returns-else-evaluate : goal.returns-else-evaluate
returns-else-evaluate c =
    let e = c.args.expression.now in
    judged-is (licensing_view c.args.granting.now.cfg.now) (crate_view 0 c.args.krate.now) e c.requirements.result.now
    c.in_ok-answers.answers _ c.in_ok-answers.ensures c.requirements.ensures
    (ap (λ (bs : List Bool). truth bs e.tree) (sym c.as_slice.ensures) ∙ (sym c.evaluate.ensures ∙ c.if-evaluate.false))
