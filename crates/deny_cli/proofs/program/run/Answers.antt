use Rattle.std.proofs.Common.{subst, List, ℕ}
use Rattle.deny_cli.specs.Outputs.{LeavesErr}
use Rattle.deny_cli.specs.Arguments.{asked_by, texts}
use Rattle.deny_cli.proofs.CausesLemmas.{AnswerLaws, completes, dead_on, fails_by, headline_on, is_refused, is_text}
use Rattle.deny_cli.proofs.CausesLemmas.{not_written, refused_arguments, status_by}
use Rattle.deny_cli.proofs.MadeLemmas.{MadeLaws, made_readable, made_valid}
use Rattle.deny_cli.proofs.ValueLemmas.{values_json}
use Rattle.deny_cli.proofs.program.run.Goals as goal

pub report_stop-requires : goal.report_stop-requires
report_stop-requires g c =
    is_text (g.D.PackageFiles.seen c.args.disk.now) (texts c.args.arguments.now) _ _
    c.result_of-run_result.result.outcome
    c.as_slice.ensures.value c.result_of-run_result.ensures.policy

pub returns-clause-usage : goal.returns-clause-usage
returns-clause-usage g c refused = refused_arguments _ _ _ c.result_of-run_result.result.outcome
    c.result_of-run_result.ensures.cause refused

pub returns-clause-completes : goal.returns-clause-completes
returns-clause-completes g c valid readable quiet =
    let laws : AnswerLaws = record {
      cause = c.one_answer.ensures.cause;
      valid = c.one_answer.ensures.valid;
      policies = c.one_policy.ensures.bans;
    } in
    let made = c.result_of-run_result.ensures in
    completes laws _ _ _ c.result_of-run_result.result.outcome valid readable
    (not_written g.W.Out.written g.W.Out.faults c.args.out.now c.result_of-run_result.new.out _
    c.result_of-run_result.result.outcome made.out quiet) made.cause

pub returns-clause-generates : goal.returns-clause-generates
returns-clause-generates g c crates asks quiet =
    let laws : MadeLaws = record {
      policy = c.made_policies.ensures.policy;
      no_table = c.made_policies.ensures.no_table;
      metadata = c.made_metadata.ensures;
    } in
    let old = g.D.PackageFiles.seen c.args.disk.now in
    let new = g.D.PackageFiles.seen c.result_of-run_result.new.disk in
    let arguments = texts c.args.arguments.now in
    returns-clause-completes g c (made_valid laws old arguments crates asks)
    (made_readable old new arguments crates asks) quiet

pub returns-clause-refuses : goal.returns-clause-refuses
returns-clause-refuses g c stop refused readable =
    let laws : AnswerLaws = record {
      cause = c.one_answer.ensures.cause;
      valid = c.one_answer.ensures.valid;
      policies = c.one_policy.ensures.bans;
    } in
    is_refused laws _ _ _ stop _ refused readable c.result_of-run_result.ensures.cause

pub returns-clause-headline : goal.returns-clause-headline
returns-clause-headline g c = headline_on c.headline.ensures _ _ _ c.result_of-run_result.result.outcome
    c.result_of-run_result.ensures.cause

pub returns-clause-dead_can_go : goal.returns-clause-dead_can_go
returns-clause-dead_can_go g c = dead_on c.dead_can_go.ensures.texts _ _ _ c.result_of-run_result.result.outcome
    c.result_of-run_result.ensures.cause

pub returns-clause-fails : goal.returns-clause-fails
returns-clause-fails g c =
    fails_by (g.D.PackageFiles.seen c.args.disk.now) (texts c.args.arguments.now) c.result_of-run_result.result.outcome
    _
    c.status.ensures
    (headline_on c.headline.ensures _ _ _ c.result_of-run_result.result.outcome c.result_of-run_result.ensures.cause)

pub returns-clause-bits : goal.returns-clause-bits
returns-clause-bits g c =
    status_by (g.D.PackageFiles.seen c.args.disk.now) (texts c.args.arguments.now) c.result_of-run_result.result.outcome
    _
    c.status.ensures
    (headline_on c.headline.ensures _ _ _ c.result_of-run_result.result.outcome c.result_of-run_result.ensures.cause)

pub returns-clause-json : goal.returns-clause-json
returns-clause-json g c = values_json (asked_by (texts c.args.arguments.now)) c.result_of-run_result.result.outcome
    c.result_of-run_result.ensures.plain

pub returns-clause-err : goal.returns-clause-err
returns-clause-err g c = (
  c.result_of-run_result.result.policy.items,
  c.result_of-run_result.ensures.policy,
  subst (λ (text : List ℕ). LeavesErr g.E.Out.written g.E.Out.faults c.args.err.now c.report_stop.new.err
      c.result_of-run_result.result.outcome text)
      c.as_slice.ensures.value c.report_stop.ensures,
)
