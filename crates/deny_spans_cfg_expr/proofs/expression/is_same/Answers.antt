use Rattle.deny_spans_cfg_expr.proofs.AgreeLemmas.{tokens_equal}
use Rattle.deny_spans_cfg_expr.proofs.expression.is_same.Goals as goal

pub returns : goal.returns
returns c = tokens_equal c.args.one.now.tokens c.args.other.now.tokens c.eq.result c.eq.ensures
