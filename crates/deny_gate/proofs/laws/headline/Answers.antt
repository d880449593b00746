use Rattle.deny_gate.proofs.HeadlineLaws.{headline_of}
use Rattle.deny_gate.proofs.laws.headline.Goals as goal

pub returns : goal.returns
returns c = headline_of
