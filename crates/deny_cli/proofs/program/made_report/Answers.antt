use Rattle.std.proofs.Common.{subst, sym}
use Rattle.deny_gate.specs.Gating.{AreShort, InputTexts, texts_in}
use Rattle.deny_cli.proofs.CausesLemmas.{made_short}
use Rattle.deny_cli.proofs.ReportLemmas.{has_made_files, made_is, none_of}
use Rattle.deny_cli.proofs.program.made_report.Goals as goal

pub report_on_inputs-requires : goal.report_on_inputs-requires
report_on_inputs-requires c =
    subst (λ (texts : InputTexts). AreShort texts) (sym c.in-Ok.ensures) (made_short c.args.crates c.requires)

pub returns-clause-report : goal.returns-clause-report
returns-clause-report c =
    let disk = c.in-Ok-disk_of.disk in
    made_is c.report_on_inputs.result c.args.crates disk.files (texts_in c.in-Ok.inputs)
    (has_made_files disk c.in-Ok-disk_of.ensures) c.in-Ok.ensures c.report_on_inputs.ensures.report

pub returns-clause-caused : goal.returns-clause-caused
returns-clause-caused c =
    let disk = c.in-Ok-disk_of.disk in
    none_of c.report_on_inputs.result disk c.report_on_inputs.new.disk (texts_in c.in-Ok.inputs)
    (has_made_files disk c.in-Ok-disk_of.ensures) c.report_on_inputs.ensures.caused
