use Rattle.std.proofs.Common.{◌≡◌, [], length, append-nil, sym, ap, ◌∙◌, arith, rules}
use Rattle.std.specs.Vec.Iter.{into_iter_items, into_iter_len}
use Rattle.deny_toml_tree.specs.private.Gathered.{lines_with}
use Rattle.deny_toml_tree.proofs.TreeLaws.{goes_on, lines_end, taken_all}
use Rattle.deny_toml_tree.proofs.tree.add_expressions.Goals as goal

pub expressions-preserved : goal.expressions-preserved
expressions-preserved c =
    let at = c.expressions in
    goes_on (lines_with c.args.span c.args.found.now c.args.header.now c.args.members.now)
    (lines_with c.args.span at.found at.header at.members)
    (lines_with c.args.span c.add_expression.new.found c.add_expression.new.header c.add_expression.new.members)
    at.yielded c.in-Some.expression at.invariant c.in_ok-add_expression.ensures

pub returns : goal.returns
returns c =
    let at = c.expressions in
    let given = c.into_iter-expression-iterator.ensures.into_iter_gives in
    let all = given.0 ∙ c.expressions-2.view_is in
    let count : into_iter_len c.into_iter-expression-iterator.result ≡ length
    (into_iter_items c.into_iter-expression-iterator.result) = first_of (search rules, omega arith, grind arith) in
    let seen : at.yielded ≡ c.args.expressions =
    taken_all c.into_iter-expression-iterator.result at.yielded at.expression-iterator c.args.expressions at.yielded_by
    all (count ∙ ap length all) c.in-None.ensures.steps.0 in
    ap (lines_with c.args.span c.args.found.now c.args.header.now c.args.members.now)
    (sym (append-nil at.yielded ∙ seen))
    ∙ at.invariant [] ∙ lines_end c.args.span at.found at.header at.members
