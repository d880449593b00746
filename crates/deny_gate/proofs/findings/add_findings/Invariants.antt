use Rattle.std.proofs.Common.{◌≡◌, ◌++◌}
use Rattle.std.specs.List.{flat_map}
use Rattle.deny_gate.specs.private.Report.{findings_of}
use Rattle.deny_gate.proofs.findings.add_findings.Given as goal

abbrev pub invariant-packs : goal.invariant-packs
invariant-packs l = l.findings ≡ l.initial.findings ++ flat_map findings_of l.yielded
