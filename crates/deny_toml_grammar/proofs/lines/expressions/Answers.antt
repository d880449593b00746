use Rattle.std.proofs.Common.{◌≡◌, ◌-◌, ◌==◌, true, false, length, ◌∙◌, rules, arith}
use Rattle.std.proofs.lemmas.Grind.{common_steps}
use Rattle.std.proofs.lemmas.Bool.Decides.{nat_tests}
use Rattle.deny_toml_grammar.specs.private.Lexical.{skip_blank}
use Rattle.deny_toml_grammar.specs.private.Lines.{expressions}
use Rattle.deny_base_lists.proofs.ReaderLemmas.{handed_on}
use Rattle.deny_toml_grammar.specs.declared.read_error.ReadError.TheVariants.{Memory}
use Rattle.deny_toml_grammar.proofs.StringsLaws.{fails_with}
use Rattle.deny_toml_grammar.proofs.LinesLaws.{lines_end, lines_more, lines_bad}
use Rattle.deny_toml_grammar.proofs.lines.expressions.Goals as goal

pub returns-then-is_empty : goal.returns-then-is_empty
unfolding expressions
returns-then-is_empty c =
    let l = c.lines in
    let total = length c.args.text.now in
    let (m, room, loop) = l.invariant.3 in
    let over : (length (skip_blank l.rest.now) == 0) ≡ true = grind (arith, nat_tests, common_steps) in
    loop ∙ lines_end m total l.found l.rest.now (omega arith) over

pub returns-in_err-expression : goal.returns-in_err-expression
unfolding expressions
returns-in_err-expression c =
    let l = c.lines in
    let total = length c.args.text.now in
    let (m, room, loop) = l.invariant.3 in
    let start_is = c.skip_blank-start.ensures.rest in
    let other : (length (skip_blank l.rest.now) == 0) ≡ false = grind (arith, nat_tests, common_steps) in
    handed_on Memory _ _ c.from_residual.result c.in_err-expression.field-0.0 c.from_residual.ensures.1
    (fails_with c.in_err-expression.field-0.0 _ _ (λ none. loop
    ∙ lines_bad m total l.found l.rest.now other (rw start_is at none)) c.in_err-expression.ensures.value)

pub lines-preserved : goal.lines-preserved
unfolding expressions
lines-preserved c =
    let l = c.lines in
    let total = length c.args.text.now in
    let (m, room, loop) = l.invariant.3 in
    let start_is = c.skip_blank-start.ensures.rest in
    let other : (length (skip_blank l.rest.now) == 0) ≡ false = grind (arith, nat_tests, common_steps) in
    let shorter = c.in_ok-expression.ensures.shorter in
    let before = c.skip_blank-start.ensures.within in (
      search rules,
      search rules,
      omega (arith, l.invariant.2),
      (
        m - 1,
        omega arith,
        loop ∙ lines_more m total l.found l.rest.now _ _ (omega arith) other
            (rw start_is at c.in_ok-expression.ensures.value) ∙ rw c.in_ok-push.ensures.ok,
      ),
    )
