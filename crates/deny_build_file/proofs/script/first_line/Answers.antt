use Rattle.std.proofs.Common.{None, Some, sym, ◌∙◌}
use Rattle.deny_build_file.proofs.ScriptLemmas.{line_at}
use Rattle.deny_build_file.proofs.script.first_line.Goals as goal

pub returns-in_err-end : goal.returns-in_err-end
returns-in_err-end c = rw c.from_residual.ensures (line_at c.args.prefix.now c.first_bytes-bytes.result.now None
    c.first_bytes-bytes.ensures.prefix (sym c.in_err-end.was ∙ c.newline_in.ensures.offset))

pub returns : goal.returns
returns c = line_at c.args.prefix.now c.first_bytes-bytes.result.now (Some c.in_ok-end.end)
    c.first_bytes-bytes.ensures.prefix (sym c.in_ok-end.was ∙ c.newline_in.ensures.offset)
