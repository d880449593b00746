use Rattle.deny_cli_generator_laws.proofs.PolicyLaws.{is-policy, is_on-none}
use Rattle.deny_cli_generator_laws.proofs.policy.made_policies.Goals as goal

pub returns-clause-policy : goal.returns-clause-policy
returns-clause-policy c = is-policy

pub returns-clause-no_table : goal.returns-clause-no_table
returns-clause-no_table c = is_on-none
