use Rattle.deny_gate_json.proofs.LineLemmas.{line_written}
use Rattle.deny_gate_json.proofs.lines.line_with_graphs.Goals as goal

pub returns-clause-text : goal.returns-clause-text
returns-clause-text c =
    line_written c.args.files.now c.args.diagnostic.now c.args.graphs.now c.in_ok-text.text c.write_code.new.out
    c.push_str.new.self c.write_graphs.new.out c.write_rest.new.out c.push_str-2.new.self c.in_ok-text.ensures
    c.in_ok-write_code.ensures c.in_ok-push_str.ensures.ok c.in_ok-write_graphs.ensures c.in_ok-write_rest.ensures.text
    c.in_ok-push_str-2.ensures.ok
