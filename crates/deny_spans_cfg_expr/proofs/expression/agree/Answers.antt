use Rattle.std.proofs.Common.{rules}
use Rattle.deny_spans_cfg_expr.proofs.AgreeLemmas.{none_of, some_of, first_none, second_none, both_read}
use Rattle.deny_spans_cfg_expr.proofs.expression.agree.Goals as goal

pub returns-in_default : goal.returns-in_default
returns-in_default c = first_none c.args.one.now c.args.other.now (search rules)
    (none_of c.args.one.now c.in_ok-first.field-0 c.in_ok-first.ensures c.in_default.is)

pub returns-in_default-2 : goal.returns-in_default-2
returns-in_default-2 c = second_none c.args.one.now c.args.other.now (search rules)
    (none_of c.args.other.now c.in_ok-second.field-0 c.in_ok-second.ensures c.in_default-2.is)

pub returns : goal.returns
returns c = both_read c.args.one.now c.args.other.now c.in-Some.first c.in-Some-2.second c.is_same.result (search rules)
    (some_of c.args.one.now c.in_ok-first.field-0 c.in-Some.first c.in_ok-first.ensures c.in-Some.is)
    (some_of c.args.other.now c.in_ok-second.field-0 c.in-Some-2.second c.in_ok-second.ensures c.in-Some-2.is)
    c.is_same.ensures
