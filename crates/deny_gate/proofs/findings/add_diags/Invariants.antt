use Rattle.std.proofs.Common.{◌≡◌, ◌++◌}
use Rattle.std.specs.Prelude.{map}
use Rattle.deny_gate.specs.private.Report.{finding_of}
use Rattle.deny_gate.proofs.findings.add_diags.Given as goal

abbrev pub invariant-diags : goal.invariant-diags
invariant-diags l = l.findings ≡ l.initial.findings ++ map (finding_of l.check l.kid) l.yielded
