use Rattle.deny_spec_report.proofs.HittingLemmas.{are_first}
use Rattle.deny_spec_report.proofs.laws.first_hits.Goals as goal

pub returns : goal.returns
returns c = λ d facts counts. are_first d facts counts
