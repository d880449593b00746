use Rattle.std.proofs.Common.{◌-◌, ◌^◌, ◌<◌}
use Rattle.deny_build_file.specs.private.Hashing.{IsHashing}
use Rattle.deny_build_file.proofs.checksum.sha256_of_file.Given as goal

abbrev pub invariant-loop-buffer : goal.invariant-loop-buffer
invariant-loop-buffer g l = IsHashing (g.D.PackageFiles.seen l.fn.disk) (g.D.PackageFiles.seen l.disk) l.path
    l.hasher l.count × (l.count < 2 ^ 40)

abbrev pub decreases-loop-buffer : goal.decreases-loop-buffer
decreases-loop-buffer g l = 2 ^ 40 - l.count
