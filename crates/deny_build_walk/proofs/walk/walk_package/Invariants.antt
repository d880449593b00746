use Rattle.std.proofs.Common.{◌≤◌, ◌^◌, ◌+◌, ◌-◌, length}
use Rattle.deny_build_walk.specs.private.Noted.{AreNoted}
use Rattle.deny_build_walk.specs.private.Walking.{Walking}
use Rattle.deny_build_walk.proofs.walk.walk_package.Given as goal

abbrev pub invariant-loop-folder : goal.invariant-loop-folder
invariant-loop-folder g l = record {
  walking : Walking l.krate l.root l.by_git (g.D.PackageFiles.seen l.fn.disk) l.fn.unread
      (g.D.PackageFiles.seen l.disk) l.unread l.walk.pending.keys l.walk.files l.walk.count;
  noted : AreNoted l.krate l.root l.by_git (g.D.PackageFiles.seen l.fn.disk) l.fn.unread (g.D.PackageFiles.seen l.disk)
      l.unread l.walk.unlisted;
  few : l.walk.count ≤ 2 ^ 24;
}

abbrev pub decreases-loop-folder : goal.decreases-loop-folder
decreases-loop-folder g l = length l.walk.pending.keys + (2 ^ 24 - l.walk.count)
