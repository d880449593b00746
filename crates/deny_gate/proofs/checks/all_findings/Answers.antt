use Rattle.deny_gate.proofs.checks.all_findings.Goals as goal

pub returns : goal.returns
returns c = record {
  warnings = c.in_ok-findings.findings;
  are_own = c.in_ok-findings.ensures;
  followed = c.in_ok-add_findings.ensures;
}
