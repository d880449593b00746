use Rattle.std.proofs.Common.{◌-◌, ◌^◌, ◌<◌, length}
use Rattle.deny_base_disk.specs.Read.{IsReading}
use Rattle.deny_base_disk.proofs.read.read_whole.Given as goal

abbrev pub invariant-loop-bytes : goal.invariant-loop-bytes
invariant-loop-bytes g l = IsReading (g.D.PackageFiles.seen l.fn.disk) (g.D.PackageFiles.seen l.disk) l.path
    l.bytes.items × (length l.bytes.items < 2 ^ 28)

abbrev pub decreases-loop-bytes : goal.decreases-loop-bytes
decreases-loop-bytes g l = 2 ^ 28 - length l.bytes.items
