use Rattle.deny_spans_cfg_expr.specs.Tokens.{is_blank}
use Rattle.deny_spans_cfg_expr.proofs.token.skip_blanks.Goals as goal
use Rattle.deny_base_lists.proofs.Texts.{prefix_within, blanks_ascii}

pub split-requires-clause-within : goal.split-requires-clause-within
split-requires-clause-within c = prefix_within is_blank c.args.text.now _ c.blank_length.result c.as_bytes.ensures.value
    c.blank_length.ensures

pub split-requires-clause-ascii : goal.split-requires-clause-ascii
split-requires-clause-ascii c = blanks_ascii c.args.text.now _ c.blank_length.result c.as_bytes.ensures.value
    c.blank_length.ensures
