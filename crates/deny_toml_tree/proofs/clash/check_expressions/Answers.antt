use Rattle.std.proofs.Common.{◌<◌, length, ap, ◌∙◌, arith}
use Rattle.deny_toml_grammar.specs.declared.expression.TomlExpression.TheVariants.{Header, Assignment}
use Rattle.deny_toml_tree.specs.Clash.{line_of, clash_after}
use Rattle.deny_toml_tree.proofs.ClashLaws.{lines_next, map_end, header_goes, key_goes, lines_end}
use Rattle.deny_toml_tree.proofs.SlotsLaws.{finds_err, key_refused, header_refused}
use Rattle.deny_toml_tree.proofs.clash.check_expressions.Goals as goal
use Rattle.deny_toml_tree.proofs.clash.check_expressions.Goals.{in-Header+in_ok-table-in-Header}
use Rattle.deny_toml_tree.proofs.clash.check_expressions.Goals.{in-Assignment+in_ok-take_key-in-Assignment}

pub returns-in_err-table-in-Header : goal.returns-in_err-table-in-Header
returns-in_err-table-in-Header c =
    let expressions = c.args.expressions.now in
    let l = c.loop-expression in
    let header = c.in-Header.header in
    let (now, lines, known) = l.invariant in
    let next = lines_next expressions l.expression-index c.expression-item.result (Header header)
    (omega (arith, c.loop-expression-test.true)) c.expression-item.is c.in-Header.is in
    finds_err c.from_residual.result _ c.in_err-table-in-Header.field-0.0 _ c.from_residual.ensures.1 (λ y p. p)
    (header_refused c.in_err-table-in-Header.field-0.0 c.take_header.new.self _ now l.table header _
    (lines ∙ ap (clash_after now l.table) next) (c.in_err-table-in-Header.ensures now known))

pub returns-in_err-take_key-in-Assignment : goal.returns-in_err-take_key-in-Assignment
returns-in_err-take_key-in-Assignment c =
    let expressions = c.args.expressions.now in
    let l = c.loop-expression in
    let key = c.in-Assignment.key in
    let (now, lines, known) = l.invariant in
    let next = lines_next expressions l.expression-index c.expression-item.result (Assignment key)
    (omega (arith, c.loop-expression-test.true)) c.expression-item.is c.in-Assignment.is in
    finds_err c.from_residual-in_err-take_key-in-Assignment.result _ c.in_err-take_key-in-Assignment.field-0.0 _
    c.from_residual-in_err-take_key-in-Assignment.ensures.1 (λ y p. p)
    (key_refused c.in_err-take_key-in-Assignment.field-0.0 c.take_key.new.slots _ now l.table key _
    (lines ∙ ap (clash_after now l.table) next) (c.in_err-take_key-in-Assignment.ensures now known))

pub loop-expression-preserved : goal.loop-expression-preserved
loop-expression-preserved c =
    let expressions = c.args.expressions.now in
    let l = c.loop-expression in
    let i = l.expression-index in
    let (now, lines, known) = l.invariant in
    let inside : i < length expressions = omega (arith, c.loop-expression-test.true) in
    elim c.match-expression.branch [
      | in-Header+in_ok-table-in-Header w ↦
          let header = w.in-Header.header in
          let next = lines_next expressions i c.expression-item.result (Header header) inside c.expression-item.is
          w.in-Header.is in
          let (after, walked, more) = w.in_ok-table-in-Header.ensures now known in
          rw (w.slots-is, w.table-is) (
            after,
            lines ∙ (ap (clash_after now l.table) next
                ∙ header_goes now after l.table w.in_ok-table-in-Header.table header _ walked),
            more,
          )
      | in-Assignment+in_ok-take_key-in-Assignment w ↦
          let key = w.in-Assignment.key in
          let next = lines_next expressions i c.expression-item.result (Assignment key) inside c.expression-item.is
          w.in-Assignment.is in
          let (after, entered, walked, none, more) = w.in_ok-take_key-in-Assignment.ensures now known in
          rw (w.slots-is, w.table-is) (
            after,
            lines ∙ (ap (clash_after now l.table) next
                ∙ key_goes now after l.table entered key _ walked none),
            more,
          )
    ]

pub returns : goal.returns
returns c =
    let l = c.loop-expression in
    let (now, lines, known) = l.invariant in
    lines ∙ lines_end now l.table _ (map_end line_of c.args.expressions.now l.expression-index
    (omega (arith, c.loop-expression-test.false)))
