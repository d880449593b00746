use Rattle.std.proofs.Common.{◌-◌, ◌+◌, ◌≤◌, take}
use Rattle.deny_base_disk.specs.Read.{IsReading}
use Rattle.deny_build_file.proofs.prefix.prefix_of.Given as goal

abbrev pub invariant-loop-disk : goal.invariant-loop-disk
invariant-loop-disk g l = IsReading (g.D.PackageFiles.seen l.fn.disk) (g.D.PackageFiles.seen l.disk) l.path
    (take l.read l.buffer) × (l.read ≤ 256)
    × ((g.D.PackageFiles.seen l.disk).given ≤ (g.D.PackageFiles.seen l.fn.disk).given + l.read)

abbrev pub decreases-loop-disk : goal.decreases-loop-disk
decreases-loop-disk g l = 256 - l.read
