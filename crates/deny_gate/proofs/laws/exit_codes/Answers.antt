use Rattle.deny_gate.proofs.ExitLaws.{exit_of}
use Rattle.deny_gate.proofs.laws.exit_codes.Goals as goal

pub returns : goal.returns
returns c = exit_of
