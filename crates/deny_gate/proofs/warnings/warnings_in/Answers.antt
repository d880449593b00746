use Rattle.std.proofs.Common.{◌∙◌, ◌++◌, List, ap, map}
use Rattle.deny_cfg.specs.PolicyView.{past_waiver_view}
use Rattle.deny_cfg.specs.declared.expired.ExpiredWaiver.{ExpiredWaiver}
use Rattle.deny_gate.specs.private.Warnings.{expired_warning}
use Rattle.deny_gate.proofs.WarningLaws.{own_warnings}
use Rattle.deny_gate.proofs.warnings.warnings_in.Goals as goal

pub returns : goal.returns
returns c = λ g replacements view packages.
    own_warnings c.args.policy.now c.put_records_in_order.new.list _ _ c.requires.file
    c.in_ok-findings.ensures
    (c.in_ok-add_expired_warnings.ensures ∙ ap (λ (waivers : List ExpiredWaiver). c.in_ok-findings.findings
    ++ map (expired_warning c.args.policy.now.bans.file_id) (map past_waiver_view waivers)) c.as_slice.ensures)
    c.in_ok-put_records_in_order.ensures.keys c.in_ok-put_records_in_order.ensures.records
    g replacements view packages
