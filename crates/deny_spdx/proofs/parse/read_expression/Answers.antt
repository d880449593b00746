use Rattle.std.proofs.lemmas.Result.{err_from_is_err_and}
use Rattle.deny_spdx.proofs.KeepsLemmas.{expression_stops, expression_found, expression_ends}
use Rattle.deny_spdx.proofs.parse.read_expression.Goals as goal

pub returns-in_err-reader : goal.returns-in_err-reader
returns-in_err-reader c = let p = err_from_is_err_and c.from_residual.result c.from_residual.ensures.1 in
    rw (p.1, p.2) (expression_stops c.new.result c.args.text.now _ c.new.ensures c.in_err-reader.ensures)

pub returns-in-Some : goal.returns-in-Some
returns-in-Some c = expression_found c.new.result c.in_ok-reader.reader c.args.text.now c.in_ok-expression.field-0
    c.in-Some.expression c.new.ensures c.in_ok-reader.ensures c.in_ok-expression.ensures c.in-Some.is

pub returns-in-None : goal.returns-in-None
returns-in-None c = expression_ends c.new.result c.in_ok-reader.reader c.args.text.now c.in_ok-expression.field-0
    c.new.ensures c.in_ok-reader.ensures c.in_ok-expression.ensures c.in-None.is
