use Rattle.std.proofs.Common.{sym, ◌∙◌}
use Rattle.deny_base_disk.proofs.ChildrenLemmas.{children_are}
use Rattle.deny_base_disk.proofs.children.children_of.Goals as goal

pub returns : goal.returns
returns c =
    children_are c.entries_behind.result c.files.inside.tree c.args.files.now c.args.dir.now c.as_str.result.now
    c.files.view_is c.entries_behind.ensures.ordered (sym c.if-not-is_folder_at.ensures)
    (c.as_str.ensures ∙ c.in_ok-prefix.ensures) c.entries_behind.ensures.entries
