use Rattle.std.proofs.Common.{map, ◌∙◌}
use Rattle.deny_cfg.specs.Clashes.{clash_diag}
use Rattle.deny_base_lists.proofs.PrefixLemmas.{gains_whole}
use Rattle.deny_cfg.proofs.PolicyLaws.{on_error, on_error_more, reported_first}
use Rattle.deny_cfg.proofs.bans.cfg.valid.report.Goals as goal

pub returns-in_err-report_clashes-clause-err : goal.returns-in_err-report_clashes-clause-err
returns-in_err-report_clashes-clause-err c =
    on_error c.from_residual-in_err-report_clashes.result _
    (reported_first c.args.source.now c.args.config.now c.args.file c.in_ok-clashes.clashes c.as_slice.result.now
    c.args.reported.now c.report_clashes.new.reported c.in_ok-clashes.ensures c.as_slice.ensures
    c.in_err-report_clashes.ensures.err)

pub returns-clause-err : goal.returns-clause-err
returns-clause-err c =
    let reported = map (clash_diag c.args.file) c.as_slice.result.now in
    on_error_more c.report_deprecated.result _ _
    (λ same. reported_first c.args.source.now c.args.config.now c.args.file c.in_ok-clashes.clashes
    c.as_slice.result.now c.args.reported.now c.report_deprecated.new.reported c.in_ok-clashes.ensures c.as_slice.ensures
    (gains_whole reported c.args.reported.now c.report_deprecated.new.reported
    (same ∙ c.in_ok-report_clashes.ensures.ok)))
    c.report_deprecated.ensures.err
