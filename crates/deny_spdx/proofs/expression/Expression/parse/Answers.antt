use Rattle.deny_spdx.specs.Grammar.{IsExpression}
use Rattle.deny_spdx.proofs.BadLemmas.{only_answer, only_offset}
use Rattle.deny_spdx.proofs.KeepsLemmas.{expression_clear}
use Rattle.deny_spdx.proofs.ReadsLemmas.{answer_reads}
use Rattle.deny_spdx.proofs.expression.Expression.parse.Goals as goal

pub returns-clause-spelled : goal.returns-clause-spelled
returns-clause-spelled c = only_answer IsExpression expression_clear c.args.text.now c.read_expression.result
    c.read_expression.ensures

pub returns-clause-bad : goal.returns-clause-bad
returns-clause-bad c = only_offset IsExpression c.args.text.now c.read_expression.result c.read_expression.ensures

pub returns-clause-meaning : goal.returns-clause-meaning
returns-clause-meaning c = answer_reads c.args.text.now c.read_expression.result c.read_expression.ensures
