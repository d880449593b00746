use Rattle.deny_gate.proofs.OneReport.{ReportLaws, by_any, by_files, by_view, nothing_failed}
use Rattle.deny_gate.proofs.laws.one_report.Goals as goal

pub returns-clause-one : goal.returns-clause-one
returns-clause-one c =
    let laws : ReportLaws = record {
      keys = c.one_report.ensures;
      unseen = c.one_unseen.ensures;
      words = c.message_unseen.ensures;
      policies = c.one_policy.ensures.bans;
      buildings = c.one_policy.ensures.building;
      globs = c.one_policy.ensures.globs;
      licences = c.one_policy.ensures.licences;
      expired = c.one_policy.ensures.waivers;
      sight = c.one_sight.ensures;
    } in
    λ files texts a b this that unread failures. by_files laws files texts a b this that unread failures

pub returns-clause-by_view : goal.returns-clause-by_view
returns-clause-by_view c =
    let laws : ReportLaws = record {
      keys = c.one_report.ensures;
      unseen = c.one_unseen.ensures;
      words = c.message_unseen.ensures;
      policies = c.one_policy.ensures.bans;
      buildings = c.one_policy.ensures.building;
      globs = c.one_policy.ensures.globs;
      licences = c.one_policy.ensures.licences;
      expired = c.one_policy.ensures.waivers;
      sight = c.one_sight.ensures;
    } in
    λ told other texts view packages a b this that. by_view laws told other texts view packages a b this that

pub returns-clause-unbuilt : goal.returns-clause-unbuilt
returns-clause-unbuilt c = nothing_failed

pub returns-clause-unseen : goal.returns-clause-unseen
returns-clause-unseen c =
    let laws : ReportLaws = record {
      keys = c.one_report.ensures;
      unseen = c.one_unseen.ensures;
      words = c.message_unseen.ensures;
      policies = c.one_policy.ensures.bans;
      buildings = c.one_policy.ensures.building;
      globs = c.one_policy.ensures.globs;
      licences = c.one_policy.ensures.licences;
      expired = c.one_policy.ensures.waivers;
      sight = c.one_sight.ensures;
    } in
    λ told other texts a b this that. by_any laws told other texts a b this that
