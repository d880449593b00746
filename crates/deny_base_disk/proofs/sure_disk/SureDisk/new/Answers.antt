use Rattle.std.proofs.Common.{subst, sym}
use Rattle.deny_base_disk.specs.MemoryDisk.{HoldsPaths}
use Rattle.deny_base_disk.proofs.PathsLemmas.{holds_nothing}
use Rattle.deny_base_disk.proofs.sure_disk.SureDisk.new.Goals as goal

pub invariant_of-result : goal.invariant_of-result
invariant_of-result c = subst HoldsPaths (sym c.new.ensures) holds_nothing
