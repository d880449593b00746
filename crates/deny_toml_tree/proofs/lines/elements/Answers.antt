use Rattle.std.proofs.Common.{◌∙◌}
use Rattle.deny_toml_tree.proofs.TreeLaws.{elements_all}
use Rattle.deny_toml_tree.proofs.lines.elements.Goals as goal

pub returns : goal.returns
returns c =
    elements_all c.args.lines _ _ c.add_element_lines.new.found c.add_element_lines.new.table
    c.found-2.inside.vec.items c.remove.new.self.items c.new-found.ensures c.new-table.ensures
    c.in_ok-add_element_lines.ensures (c.found-2.view_is ∙ c.in_ok-push.ensures.ok) c.remove.ensures.items
