use Rattle.deny_cli.proofs.ValueLemmas.{are_json_lines}
use Rattle.deny_cli.proofs.laws.lines_are_json.Goals as goal

pub returns : goal.returns
returns c = are_json_lines
