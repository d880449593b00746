use Rattle.deny_base_disk.proofs.ChildrenLemmas.{behind_is}
use Rattle.deny_base_disk.proofs.children.path_behind.Goals as goal

pub returns : goal.returns
returns c = behind_is c.strip_prefix.result c.args.prefix.now c.args.path.now c.strip_prefix.ensures.cases
