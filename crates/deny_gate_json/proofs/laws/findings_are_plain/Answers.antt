use Rattle.deny_gate_json.proofs.PlainLemmas.{diagnostic_plain, finding_plain}
use Rattle.deny_gate_json.proofs.laws.findings_are_plain.Goals as goal

pub returns : goal.returns
returns c = record {
  diagnostic = diagnostic_plain;
  finding = finding_plain;
}
