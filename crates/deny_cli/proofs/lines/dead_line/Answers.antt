use Rattle.deny_cli.proofs.FloatLemmas.{in_dead}
use Rattle.deny_cli.proofs.lines.dead_line.Goals as goal

pub line-requires : goal.line-requires
line-requires c = rw c.in_ok-dead_value.ensures (in_dead c.args.entry)
