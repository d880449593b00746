use Rattle.deny_cfg.proofs.OnePolicyLaws.{policy_without_clashes, same_faults, same_reported, says_without_faults}
use Rattle.deny_cfg.proofs.laws.one_refusal.Goals as goal

pub returns-clause-faults : goal.returns-clause-faults
returns-clause-faults c = same_faults

pub returns-clause-clashes : goal.returns-clause-clashes
returns-clause-clashes c = same_reported

pub returns-clause-faults_alone : goal.returns-clause-faults_alone
returns-clause-faults_alone c =
    λ today text file faults reported lists reports.
    says_without_faults today text reports.config reports.licensing faults reports.says lists

pub returns-clause-no_policy_with_faults : goal.returns-clause-no_policy_with_faults
returns-clause-no_policy_with_faults c =
    λ today text file faults policy lists is.
    says_without_faults today text is.config is.licensing faults is.says lists

pub returns-clause-no_policy_with_clashes : goal.returns-clause-no_policy_with_clashes
returns-clause-no_policy_with_clashes c = policy_without_clashes
