use Rattle.std.proofs.Common.{◌+◌, ◌≤◌, length, take}
use Rattle.std.specs.List.{sum_by}
use Rattle.deny_base_disk.specs.Disk.{IsLater}
use Rattle.deny_base_disk.specs.Read.{GaveAtMost}
use Rattle.deny_spans.specs.Wanted.{bytes_of}
use Rattle.deny_spans.specs.private.Gathered.{IsGathered}
use Rattle.deny_base_unread.specs.Bound.{Folders}
use Rattle.deny_base_unread.specs.Causes.{AreCaused}
use Rattle.deny_spans.proofs.gathered.gather.Given as goal

abbrev pub invariant-loop-place : goal.invariant-loop-place
invariant-loop-place g l = record {
  gathered : IsGathered (g.D.PackageFiles.seen l.fn.disk).files l.krates
      (take l.place l.krates.crates) l.fn.files l.files
      l.gathered;
  caused : (folder : Folders) → AreCaused folder (g.D.PackageFiles.seen l.fn.disk) (g.D.PackageFiles.seen l.disk)
      l.gathered.missed.unread;
  once : GaveAtMost (g.D.PackageFiles.seen l.fn.disk) (g.D.PackageFiles.seen l.disk)
      (λ files. sum_by (bytes_of files) (take l.place l.krates.crates));
  later : IsLater (g.D.PackageFiles.seen l.fn.disk) (g.D.PackageFiles.seen l.disk);
  few : length l.files ≤ length l.fn.files + l.place;
}
