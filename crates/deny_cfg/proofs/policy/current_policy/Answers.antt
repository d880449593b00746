use Rattle.std.proofs.Common.{◌++◌, ap, map, subst, ◌∙◌}
use Rattle.deny_cfg.specs.Current.{AreInOrder, expired_id, expired_in_bans, expired_in_licenses}
use Rattle.deny_cfg.specs.PolicyView.{past_waiver_view}
use Rattle.deny_cfg.specs.Warnings.{expired_warnings}
use Rattle.deny_cfg.proofs.CurrentLaws.{gathered}
use Rattle.deny_cfg.proofs.policy.current_policy.Goals as goal

pub returns-clause-current : goal.returns-clause-current
returns-clause-current c = record {
  bans = c.in_ok-take_from_bans.ensures.current;
  licenses = c.in_ok-take_from_licenses.ensures.current;
  waivers =
      subst (λ all. AreInOrder all c.put_expired_in_order.new.expired)
      (gathered (expired_in_bans c.args.today c.args.bans) (expired_in_licenses c.args.today c.args.licenses)
      c.new-expired.result c.take_from_bans.new.expired c.take_from_licenses.new.expired c.new-expired.ensures
      c.in_ok-take_from_bans.ensures.expired c.in_ok-take_from_licenses.ensures.expired)
      c.in_ok-put_expired_in_order.ensures;
  expired = c.in_ok-ids.ensures ∙ ap (map expired_id) c.as_slice-waivers.ensures;
}

pub returns-clause-warnings : goal.returns-clause-warnings
returns-clause-warnings c =
    c.in_ok-report_expired.ensures
    ∙ ap (λ waivers. c.args.warnings ++ expired_warnings c.args.file (map past_waiver_view waivers))
    c.as_slice-waivers.ensures
