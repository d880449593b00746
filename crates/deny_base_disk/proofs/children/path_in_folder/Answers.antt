use Rattle.std.proofs.Common.{◌∙◌, ap, sym}
use Rattle.std.specs.Option.{option_copied}
use Rattle.deny_base_disk.proofs.ChildrenLemmas.{below_none, below_some}
use Rattle.deny_base_disk.proofs.children.path_in_folder.Goals as goal

pub returns-in-Some : goal.returns-in-Some
returns-in-Some c = c.behind_slash.ensures
    ∙ below_some c.args.dir.now c.args.path.now c.in-Some.rest.now
    (ap option_copied (sym c.in-Some.is) ∙ c.path_behind.ensures)

pub returns-in-None : goal.returns-in-None
returns-in-None c =
    below_none c.args.dir.now c.args.path.now (ap option_copied (sym c.in-None.is) ∙ c.path_behind.ensures)
