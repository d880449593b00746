use Rattle.deny_spans_cfg_expr.specs.Tokens.{is_name_byte}
use Rattle.deny_spans_cfg_expr.proofs.SplitLemmas.{names_ascii}
use Rattle.deny_spans_cfg_expr.proofs.token.word.Goals as goal
use Rattle.deny_base_lists.proofs.Texts.{prefix_within}

pub split-requires-clause-within : goal.split-requires-clause-within
split-requires-clause-within c = prefix_within is_name_byte c.args.text.now _ c.name_length.result
    c.as_bytes.ensures.value c.name_length.ensures

pub split-requires-clause-ascii : goal.split-requires-clause-ascii
split-requires-clause-ascii c = names_ascii c.args.text.now _ c.name_length.result c.as_bytes.ensures.value
    c.name_length.ensures
