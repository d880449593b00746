use Rattle.std.proofs.Common.{◌≡◌, Some, sym, ap, ◌∙◌}
use Rattle.std.proofs.lemmas.Result.{IfOk-weaker}
use Rattle.deny_spdx.specs.Reads.{reading_in}
use Rattle.deny_krates.specs.Crates.{crate_view}
use Rattle.deny_cfg.specs.LicensingView.{licensing_view}
use Rattle.deny_gate_licenses.specs.private.Judgements.{of_expression, of_reading, unread_of}
use Rattle.deny_gate_licenses.proofs.JudgementLemmas.{unread-is}
use Rattle.deny_gate_licenses.proofs.judgement.of_reading.Goals as goal

pub returns-in-Ok : goal.returns-in-Ok
returns-in-Ok c =
    let l = licensing_view c.args.granting.now.cfg.now in
    let krate = crate_view 0 c.args.krate.now in
    IfOk-weaker c.of_expression.result (λ j. j ≡ of_expression l krate c.in-Ok.expression)
    (λ j. j ≡ of_reading l krate (reading_in c.args.text.now))
    (λ j is. is ∙ sym (ap (of_reading l krate) c.in-Ok.ensures.meaning)) c.of_expression.ensures

pub returns-in-Err : goal.returns-in-Err
returns-in-Err c =
    let l = licensing_view c.args.granting.now.cfg.now in
    let krate = crate_view 0 c.args.krate.now in
    IfOk-weaker c.unread.result (λ j. unread_of c.in-Err.error ≡ Some j)
    (λ j. j ≡ of_reading l krate (reading_in c.args.text.now))
    (λ j is. unread-is l krate c.args.text.now c.in-Err.error j is c.in-Err.ensures.meaning) c.unread.ensures
