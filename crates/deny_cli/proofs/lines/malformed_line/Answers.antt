use Rattle.deny_cli.proofs.FloatLemmas.{in_malformed}
use Rattle.deny_cli.proofs.lines.malformed_line.Goals as goal

pub line-requires : goal.line-requires
line-requires c = rw c.in_ok-malformed_value.ensures (in_malformed c.args.path.now)
