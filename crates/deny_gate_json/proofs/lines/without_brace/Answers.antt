use Rattle.std.proofs.Common.{None, lit<}
use Rattle.std.proofs.lemmas.Str.Pattern.{strip_prefix_char}
use Rattle.deny_gate_json.proofs.lines.without_brace.Goals as goal

pub returns-in-None : goal.returns-in-None
returns-in-None c = λ rest is.
    absurd (strip_prefix_char 123 c.args.text.now None c.in-None.ensures.cases (lit< tt) rest is)
