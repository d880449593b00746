use Rattle.std.proofs.Common.{None, lit<}
use Rattle.std.proofs.lemmas.Str.Pattern.{strip_suffix_char}
use Rattle.deny_gate_json.proofs.QuoteLemmas.{end_done}
use Rattle.deny_gate_json.proofs.labels.without_end.Goals as goal

pub returns : goal.returns
returns c = end_done c.loop-shorter.rest.now c.args.text.now
    (strip_suffix_char 34 c.loop-shorter.rest.now None c.in_default.ensures.cases (lit< tt)) c.loop-shorter.invariant.1
