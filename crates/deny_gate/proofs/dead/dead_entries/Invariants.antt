use Rattle.std.proofs.Common.{◌≡◌, ◌++◌, drop}
use Rattle.std.specs.Prelude.{filter_map}
use Rattle.deny_gate.specs.private.Dead.{dead_entry}
use Rattle.deny_gate.specs.declared.report.Finding.{Finding}
use Rattle.deny_gate.proofs.dead.dead_entries.Given as goal

abbrev pub invariant-loop-finding : goal.invariant-loop-finding
invariant-loop-finding l =
    l.entries ++ filter_map (λ (f : Finding). dead_entry l.hit f.diag.key) (drop l.finding-index l.findings)
    ≡ filter_map (λ (f : Finding). dead_entry l.hit f.diag.key) l.findings
