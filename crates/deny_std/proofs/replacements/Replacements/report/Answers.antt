use Rattle.std.proofs.Common.{◌++◌, List, ℕ, map, ap, ◌∙◌, subst}
use Rattle.deny_base_lists.proofs.Results.{on_err_then, on_err_always, on_ok_then}
use Rattle.deny_spec_report.specs.Saying.{said_in}
use Rattle.deny_std.specs.declared.diags.Unmatched.{Unmatched}
use Rattle.deny_std.specs.private.Diags.{ReportsFirst, replaced_pack, unmatched_pack}
use Rattle.deny_std.proofs.ReportingLemmas.{reported-all, reported-first, reported-second}
use Rattle.deny_std.proofs.replacements.Replacements.report.Goals as goal

pub returns-in_err-report_unmatched-clause-prefix : goal.returns-in_err-report_unmatched-clause-prefix
returns-in_err-report_unmatched-clause-prefix c = on_err_always c.from_residual.result (λ d same is.
    reported-first d c.args.id c.args.self.now is c.args.krates.now c.args.sink.now c.report_unmatched.new.sink same
    (subst (λ (us : List Unmatched). ReportsFirst (unmatched_pack c.args.id) us c.args.sink.now
    c.report_unmatched.new.sink)
    c.as_slice.ensures c.in_err-report_unmatched.ensures.prefix))

pub returns-clause-reported : goal.returns-clause-reported
returns-clause-reported c = on_ok_then c.report_replaced.result c.report_replaced.ensures.ok (λ added d same is.
    reported-all d c.args.id c.args.self.now is c.args.krates.now c.args.sink.now c.report_unmatched.new.sink
    c.report_replaced.new.sink same
    (c.in_ok-report_unmatched.ensures.ok
    ∙ ap (λ (us : List Unmatched). c.args.sink.now ++ map (unmatched_pack c.args.id) us) c.as_slice.ensures)
    (added ∙ ap (λ (places : List ℕ). c.report_unmatched.new.sink
    ++ map (replaced_pack c.args.self.now.level c.args.krates.now
    (said_in c.args.self.now.table)) places) c.as_slice-2.ensures))

pub returns-clause-prefix : goal.returns-clause-prefix
returns-clause-prefix c = on_err_then c.report_replaced.result c.report_replaced.ensures.prefix (λ first d same is.
    reported-second d c.args.id c.args.self.now is c.args.krates.now c.args.sink.now c.report_unmatched.new.sink
    c.report_replaced.new.sink same
    (c.in_ok-report_unmatched.ensures.ok
    ∙ ap (λ (us : List Unmatched). c.args.sink.now ++ map (unmatched_pack c.args.id) us) c.as_slice.ensures)
    (subst (λ (places : List ℕ). ReportsFirst
    (replaced_pack c.args.self.now.level c.args.krates.now (said_in c.args.self.now.table)) places
    c.report_unmatched.new.sink c.report_replaced.new.sink) c.as_slice-2.ensures first))
