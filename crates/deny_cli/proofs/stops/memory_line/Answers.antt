use Rattle.std.proofs.Common.{refl}
use Rattle.serde_json.proofs.OnLiterals.{serde_json_on_literals}
use Rattle.deny_cli.specs.Stops.{memory_line}
use Rattle.deny_cli.proofs.stops.memory_line.Goals as goal

pub returns : goal.returns
unfolding serde_json_on_literals memory_line
returns c = refl
