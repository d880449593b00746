use Rattle.deny_gate_json.proofs.ReadingLemmas.{is_json}
use Rattle.deny_gate_json.proofs.laws.text_is_json.Goals as goal

pub returns : goal.returns
returns c = is_json
