use Rattle.std.proofs.Common.{◌≡◌, [], length, append-nil, sym, ap, ◌∙◌, arith, rules}
use Rattle.std.specs.Vec.Iter.{into_iter_items, into_iter_len}
use Rattle.deny_toml_tree.specs.private.Gathered.{elements_with}
use Rattle.deny_toml_tree.proofs.TreeLaws.{goes_on, elements_end, taken_all}
use Rattle.deny_toml_tree.proofs.lines.add_element_lines.Goals as goal

pub lines-preserved : goal.lines-preserved
lines-preserved c =
    let at = c.lines in
    goes_on (elements_with c.args.found.now c.args.table.now) (elements_with at.found at.table)
    (elements_with c.add_element_line.new.found c.add_element_line.new.table) at.yielded c.in-Some.line at.invariant
    c.in_ok-add_element_line.ensures

pub returns : goal.returns
returns c =
    let at = c.lines in
    let given = c.into_iter-line-iterator.ensures.into_iter_gives in
    let all = given.0 ∙ c.lines-2.view_is in
    let count : into_iter_len c.into_iter-line-iterator.result ≡ length
    (into_iter_items c.into_iter-line-iterator.result) = first_of (search rules, omega arith, grind arith) in
    let seen : at.yielded ≡ c.args.lines =
    taken_all c.into_iter-line-iterator.result at.yielded at.line-iterator c.args.lines at.yielded_by all
    (count ∙ ap length all) c.in-None.ensures.steps.0 in
    ap (elements_with c.args.found.now c.args.table.now) (sym (append-nil at.yielded ∙ seen)) ∙ at.invariant []
    ∙ elements_end at.found at.table
