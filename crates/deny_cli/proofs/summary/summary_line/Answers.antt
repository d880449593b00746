use Rattle.deny_cli.proofs.FloatLemmas.{in_summary}
use Rattle.deny_cli.proofs.summary.summary_line.Goals as goal

pub line-requires : goal.line-requires
line-requires c = rw c.in_ok-report_summary.ensures.value (in_summary c.args.made c.args.report.now)
