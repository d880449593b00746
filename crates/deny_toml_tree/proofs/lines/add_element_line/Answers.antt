use Rattle.std.proofs.Common.{sym, ◌∙◌}
use Rattle.std.proofs.lemmas.Result.{on_ok_weaker}
use Rattle.deny_toml_tree.proofs.TreeLaws.{elements_next, elements_more}
use Rattle.deny_toml_tree.proofs.lines.add_element_line.Goals as goal

pub returns-then-is_element : goal.returns-then-is_element
returns-then-is_element c =
    on_ok_weaker c.begin_element.result
    (λ both. elements_next c.args.found.now c.args.table.now c.args.line c.begin_element.new.found
    c.begin_element.new.table (sym c.is_element.ensures ∙ c.if-is_element.true) both.0 both.1) c.begin_element.ensures

pub returns-else-is_element : goal.returns-else-is_element
returns-else-is_element c =
    on_ok_weaker c.push.result
    (elements_more c.args.found.now c.args.table.now c.args.line c.push.new.self
    (sym c.is_element.ensures ∙ c.if-is_element.false)) c.push.ensures.ok
