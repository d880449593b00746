use Rattle.std.proofs.Common.{◌≡◌, ◌+◌, ◌≤◌, drop, length}
use Rattle.std.specs.Prelude.{filter}
use Rattle.deny_gate.specs.Report.{has_error}
use Rattle.deny_cli.proofs.summary.error_count.Given as goal

abbrev pub invariant-loop-finding : goal.invariant-loop-finding
invariant-loop-finding l =
    (l.errors + length (filter has_error (drop l.finding-index l.findings)) ≡ length (filter has_error l.findings))
    × (l.errors ≤ l.finding-index)
