use Rattle.std.proofs.Common.{subst, sym}
use Rattle.std.specs.Prelude.{All}
use Rattle.deny_gate_json.specs.Reading.{IsPlain}
use Rattle.deny_cli.specs.Outcome.{IfReported}
use Rattle.deny_cli.specs.Outputs.{LeavesOut}
use Rattle.deny_cli.specs.Values.{values_for}
use Rattle.deny_cli.specs.Arguments.{asked_by, texts}
use Rattle.deny_cli.specs.declared.outcome.Outcome.{Outcome}
use Rattle.deny_cli.proofs.CausesLemmas.{leaves}
use Rattle.deny_cli.proofs.ValueLemmas.{values_asked}
use Rattle.deny_cli.proofs.program.result_of.Goals as goal

pub returns-in-Ok-clause-out : goal.returns-in-Ok-clause-out
returns-in-Ok-clause-out g c =
    subst (λ (outcome : Outcome). LeavesOut g.W.Out.written g.W.Out.faults c.args.out.now c.write_answer.new.out
    (asked_by (texts c.args.arguments.now)) outcome) (sym c.without_policy.ensures.outcome)
    (leaves g.W.Out.written g.W.Out.faults c.args.out.now c.write_answer.new.out (asked_by (texts c.args.arguments.now))
    _ _
    c.write_answer.result c.in-Ok.ensures.asks c.write_answer.ensures.wrote)

pub returns-in-Ok-clause-plain : goal.returns-in-Ok-clause-plain
returns-in-Ok-clause-plain g c =
    subst (λ (outcome : Outcome). IfReported outcome (λ report. All IsPlain (values_for (asked_by
    (texts c.args.arguments.now)) report))) (sym c.without_policy.ensures.outcome)
    (values_asked (asked_by (texts c.args.arguments.now)) _ c.write_answer.result c.in-Ok.ensures.asks
    c.write_answer.ensures.plain)
