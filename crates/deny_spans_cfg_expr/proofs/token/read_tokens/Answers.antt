use Rattle.std.proofs.Common.{rules, ◌∙◌, sym, length}
use Rattle.std.proofs.lemmas.Bool.{eqb-true}
use Rattle.deny_spans_cfg_expr.proofs.TokenLemmas.{read_all, read_stuck, read_more}
use Rattle.deny_spans_cfg_expr.proofs.token.read_tokens.Goals as goal

pub returns-then-is_empty : goal.returns-then-is_empty
returns-then-is_empty c = read_all c.args.text.now c.loop-here.rest.now c.skip_blanks-here.result.now
    c.loop-here.tokens c.loop-here.invariant.1 c.skip_blanks-here.ensures
    (eqb-true (length c.skip_blanks-here.result.now) 0 (sym c.is_empty.ensures ∙ c.if-is_empty.true))

pub returns-in_default : goal.returns-in_default
returns-in_default c = read_stuck c.args.text.now c.loop-here.rest.now c.skip_blanks-here.result.now
    c.loop-here.tokens c.loop-here.invariant.1 c.skip_blanks-here.ensures (search rules) (search rules)

pub loop-here-preserved : goal.loop-here-preserved
loop-here-preserved c = (
  search rules,
  read_more c.args.text.now c.loop-here.rest.now c.skip_blanks-here.result.now c.in-Some.after.now
      c.loop-here.tokens c.push.new.self c.in-Some.token c.loop-here.invariant.1 c.skip_blanks-here.ensures
      (search rules) (search rules),
)
