use Rattle.std.proofs.Common.{◌∙◌}
use Rattle.deny_cfg.specs.Clashes.{clash_diag}
use Rattle.deny_base_lists.proofs.PrefixLemmas.{gains_mapped}
use Rattle.deny_cfg.proofs.PolicyLaws.{on_error}
use Rattle.deny_cfg.proofs.clash_diag.report_clashes.Goals as goal

pub returns-in_err-clash_diag-clause-err : goal.returns-in_err-clash_diag-clause-err
returns-in_err-clash_diag-clause-err c =
    on_error c.from_residual.result _
    (gains_mapped (clash_diag c.args.file) c.args.clashes.now c.loop-clash.clash-index c.args.reported.now
    c.loop-clash.reported c.loop-clash.invariant)

pub returns-in_err-push-clause-err : goal.returns-in_err-push-clause-err
returns-in_err-push-clause-err c =
    on_error c.from_residual-in_err-push.result _
    (gains_mapped (clash_diag c.args.file) c.args.clashes.now c.loop-clash.clash-index c.args.reported.now
    c.push.new.self (c.in_err-push.ensures.err ∙ c.loop-clash.invariant))
