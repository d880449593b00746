use Rattle.deny_spec_report.proofs.Unseen.{message_unseen}
use Rattle.deny_spec_report.proofs.laws.message_unseen.Goals as goal

pub returns : goal.returns
returns c = λ d view packages key free. message_unseen d view packages key free
