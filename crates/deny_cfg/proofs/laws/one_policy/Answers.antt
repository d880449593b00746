use Rattle.deny_cfg.proofs.OnePolicyLaws.{same_built, same_expired, same_globs_file, same_licences, same_waivers}
use Rattle.deny_cfg.proofs.OnePolicyLaws.{same_policy, same_warnings}
use Rattle.deny_cfg.proofs.laws.one_policy.Goals as goal

pub returns-clause-bans : goal.returns-clause-bans
returns-clause-bans c = same_policy

pub returns-clause-building : goal.returns-clause-building
returns-clause-building c = same_built

pub returns-clause-globs : goal.returns-clause-globs
returns-clause-globs c = same_globs_file

pub returns-clause-warnings : goal.returns-clause-warnings
returns-clause-warnings c = same_warnings

pub returns-clause-licences : goal.returns-clause-licences
returns-clause-licences c = same_licences

pub returns-clause-waivers : goal.returns-clause-waivers
returns-clause-waivers c = same_waivers

pub returns-clause-expired : goal.returns-clause-expired
returns-clause-expired c = same_expired
