use Rattle.std.proofs.Common.{ap}
use Rattle.deny_gate.specs.Gating.{texts_in}
use Rattle.deny_cli.specs.private.Commands.{check_view, command_view}
use Rattle.deny_cli.proofs.ReportLemmas.{caused_there, made_there, report_there}
use Rattle.deny_cli.proofs.program.report_for_command.Goals as goal

pub returns-in-Ok-clause-report : goal.returns-in-Ok-clause-report
returns-in-Ok-clause-report g c =
    let old = g.D.PackageFiles.seen c.args.disk.now in
    let between = g.D.PackageFiles.seen c.read_inputs.new.disk in
    report_there c.report_on_inputs.result old between _ (check_view c.in-Check.asked) (texts_in c.in-Ok.inputs)
    (ap command_view c.in-Check.is) c.in-Ok.ensures.later c.in-Ok.ensures.read c.report_on_inputs.ensures.report

pub returns-in-Ok-clause-caused : goal.returns-in-Ok-clause-caused
returns-in-Ok-clause-caused g c =
    let old = g.D.PackageFiles.seen c.args.disk.now in
    let between = g.D.PackageFiles.seen c.read_inputs.new.disk in
    caused_there c.report_on_inputs.result old between _ _ (check_view c.in-Check.asked) (texts_in c.in-Ok.inputs)
    (ap command_view c.in-Check.is) c.in-Ok.ensures.later c.in-Ok.ensures.read c.report_on_inputs.ensures.caused

pub returns-in-Generate-clause-report : goal.returns-in-Generate-clause-report
returns-in-Generate-clause-report g c =
    made_there c.made_report.result c.in-Generate.crates (g.D.PackageFiles.seen c.args.disk.now) _
    (ap command_view c.in-Generate.is) c.made_report.ensures.report
