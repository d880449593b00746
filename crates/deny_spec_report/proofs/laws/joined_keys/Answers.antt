use Rattle.deny_spec_report.proofs.Joined.{joined}
use Rattle.deny_spec_report.proofs.laws.joined_keys.Goals as goal

pub returns : goal.returns
returns c = λ d facts ws xs ys warned these those. joined d facts ws xs ys warned these those
