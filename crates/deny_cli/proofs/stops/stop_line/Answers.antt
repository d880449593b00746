use Rattle.deny_cli.proofs.FloatLemmas.{in_stop}
use Rattle.deny_cli.proofs.stops.stop_line.Goals as goal

pub line-requires : goal.line-requires
line-requires c = rw c.in_ok-stop_value.ensures.value (in_stop _ _)
