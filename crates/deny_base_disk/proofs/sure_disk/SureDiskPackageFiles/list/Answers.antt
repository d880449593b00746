use Rattle.std.proofs.Common.{subst, sym}
use Rattle.deny_base_disk.specs.Children.{AreListed}
use Rattle.deny_base_disk.proofs.ChildrenLemmas.{children_listed}
use Rattle.deny_base_disk.proofs.sure_disk.SureDiskPackageFiles.list.Goals as goal

pub returns-clause-names : goal.returns-clause-names
returns-clause-names c = subst AreListed (sym c.in_ok-entries.ensures) (children_listed _ _)
