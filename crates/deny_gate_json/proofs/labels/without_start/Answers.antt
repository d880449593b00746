use Rattle.std.proofs.Common.{None, lit<}
use Rattle.std.proofs.lemmas.Str.Pattern.{strip_prefix_char}
use Rattle.deny_gate_json.proofs.QuoteLemmas.{prefix_done}
use Rattle.deny_gate_json.proofs.labels.without_start.Goals as goal

pub returns : goal.returns
returns c = prefix_done c.loop-shorter.rest.now c.args.text.now
    (strip_prefix_char 34 c.loop-shorter.rest.now None c.in_default.ensures.cases (lit< tt)) c.loop-shorter.invariant.1
