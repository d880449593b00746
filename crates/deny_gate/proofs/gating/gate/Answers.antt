use Rattle.deny_cfg.specs.PolicyView.{policy_view}
use Rattle.deny_gate.specs.Gating.{texts_in}
use Rattle.deny_gate.proofs.CauseLaws.{cause_then, caused_then, code_then, dead_then, headline_then, report_then}
use Rattle.deny_gate.proofs.ClashLabels.{cause_behind_labelled, policy_cause_labelled}
use Rattle.deny_gate.proofs.PolicyFiles.{file_number}
use Rattle.deny_gate.proofs.PolicyLabels.{labels_then}
use Rattle.deny_gate.proofs.gating.gate.Goals as goal

pub report_on_metadata-requires-clause-file : goal.report_on_metadata-requires-clause-file
report_on_metadata-requires-clause-file g c =
    file_number _ _ c.in_ok-policy.policy c.in_ok-policy.ensures.ok

pub returns-clause-cause : goal.returns-clause-cause
returns-clause-cause g c =
    cause_then (texts_in c.args.inputs.now) c.in_ok-policy.policy _ c.as_slice.ensures.value
    c.in_ok-policy.ensures.ok c.report_on_metadata.result c.report_on_metadata.ensures.cause

pub returns-clause-report : goal.returns-clause-report
returns-clause-report g c =
    report_then (texts_in c.args.inputs.now) c.in_ok-policy.policy _ c.as_slice.ensures.value
    c.in_ok-policy.ensures.ok _ _ c.report_on_metadata.result c.report_on_metadata.ensures.report

pub returns-clause-caused : goal.returns-clause-caused
returns-clause-caused g c =
    caused_then (texts_in c.args.inputs.now) c.in_ok-policy.policy _ c.as_slice.ensures.value
    c.in_ok-policy.ensures.ok _ _ c.report_on_metadata.result c.report_on_metadata.ensures.report
    c.report_on_metadata.ensures.caused

pub returns-clause-headline : goal.returns-clause-headline
returns-clause-headline g c =
    headline_then (texts_in c.args.inputs.now) c.in_ok-policy.policy _ c.as_slice.ensures.value
    c.in_ok-policy.ensures.ok _ _ c.report_on_metadata.result c.report_on_metadata.ensures.report

pub returns-clause-exit_code : goal.returns-clause-exit_code
returns-clause-exit_code g c =
    code_then (texts_in c.args.inputs.now) c.in_ok-policy.policy _ c.as_slice.ensures.value
    c.in_ok-policy.ensures.ok _ _ c.report_on_metadata.result c.report_on_metadata.ensures.report

pub returns-clause-labels : goal.returns-clause-labels
returns-clause-labels g c =
    labels_then _ _ (texts_in c.args.inputs.now) c.in_ok-policy.policy _ c.report_on_metadata.result
    c.as_slice.ensures.value
    c.in_ok-policy.ensures.ok c.in_ok-policy.ensures.labels c.in_ok-policy.ensures.licence_labels
    c.in_ok-policy.ensures.older_key c.in_ok-policy.ensures.expired_labels c.report_on_metadata.ensures.report

pub returns-in_err-policy-clause-clash_labels : goal.returns-in_err-policy-clause-clash_labels
returns-in_err-policy-clause-clash_labels g c =
    policy_cause_labelled _ _ _ c.from_residual.result c.in_err-policy.field-0.0 c.as_slice.ensures.value
    c.from_residual.ensures.1 c.in_err-policy.ensures.err

pub returns-clause-clash_labels : goal.returns-clause-clash_labels
returns-clause-clash_labels g c = cause_behind_labelled _ (policy_view c.in_ok-policy.policy.bans)
    (texts_in c.args.inputs.now) c.report_on_metadata.result c.report_on_metadata.ensures.cause

pub returns-clause-dead_can_go : goal.returns-clause-dead_can_go
returns-clause-dead_can_go g c =
    dead_then (texts_in c.args.inputs.now) c.in_ok-policy.policy _ c.as_slice.ensures.value
    c.in_ok-policy.ensures.ok _ _ c.entries_can_go.ensures c.packages_stay.ensures c.report_on_metadata.result
    c.report_on_metadata.ensures.report
