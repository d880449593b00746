use Rattle.std.proofs.Common.{◌∙◌, sym}
use Rattle.deny_spans_cfg_expr.proofs.SplitLemmas.{some_name}
use Rattle.deny_spans_cfg_expr.proofs.token.first_token.Goals as goal

pub word-requires : goal.word-requires
word-requires c = some_name c.args.text.now c.in-Some.byte (sym c.first_byte.ensures ∙ c.in-Some.is)
    (sym c.is_name_start.ensures ∙ c.if-is_name_start.true)
