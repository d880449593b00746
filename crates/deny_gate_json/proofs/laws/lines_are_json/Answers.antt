use Rattle.deny_gate_json.proofs.NewlineLemmas.{json_lines}
use Rattle.deny_gate_json.proofs.laws.lines_are_json.Goals as goal

pub returns : goal.returns
returns c = json_lines
