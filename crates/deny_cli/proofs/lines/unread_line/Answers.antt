use Rattle.deny_cli.proofs.FloatLemmas.{in_unread}
use Rattle.deny_cli.proofs.lines.unread_line.Goals as goal

pub line-requires : goal.line-requires
line-requires c = rw c.in_ok-unread_value.ensures (in_unread c.args.krates.now c.args.entry.now)
