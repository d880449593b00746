use Rattle.deny_spans_cfg_expr.proofs.AgreeLemmas.{is_none, is_cfg}
use Rattle.deny_spans_cfg_expr.proofs.expression.read_expression.Goals as goal

pub returns-then-spelled : goal.returns-then-spelled
returns-then-spelled c = is_cfg c.args.text.now c.in_ok-tokens.field-0 c.in-Some.tokens c.as_slice.result.now
    c.without_commas.result c.in_ok-spelled.spelled c.in_ok-tokens.ensures c.in-Some.is c.as_slice.ensures
    c.in_ok-spelled.ensures c.if-spelled.true c.without_commas.ensures

pub returns-else-spelled : goal.returns-else-spelled
returns-else-spelled c = is_none c.args.text.now c.in_ok-tokens.field-0 c.in-Some.tokens c.as_slice.result.now
    c.in_ok-spelled.spelled c.in_ok-tokens.ensures c.in-Some.is c.as_slice.ensures c.in_ok-spelled.ensures
    c.if-spelled.false
