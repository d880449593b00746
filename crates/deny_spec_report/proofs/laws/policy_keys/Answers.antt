use Rattle.deny_spec_report.proofs.PolicyKeys.{all_warned}
use Rattle.deny_spec_report.proofs.laws.policy_keys.Goals as goal

pub returns : goal.returns
returns c = λ d facts keys listed. all_warned d facts keys listed
