use Rattle.std.proofs.Common.{◌+◌, ◌≤◌, sum_by, take}
use Rattle.std.specs.Option.{option_copied}
use Rattle.deny_cfg_build.specs.BuildingView.{building_view}
use Rattle.deny_build_bypass.specs.Marks.{reached_by}
use Rattle.deny_base_disk.specs.Disk.{IsLater}
use Rattle.deny_build_scan.proofs.PackagesLemmas.{AreSoFar}
use Rattle.deny_build_scan.specs.Failures.{calls_for}
use Rattle.deny_build_scan.specs.Why.{AreFoldersOf}
use Rattle.deny_base_unread.specs.Added.{IsLonger, added}
use Rattle.deny_base_unread.specs.Bound.{Folders}
use Rattle.deny_base_unread.specs.Causes.{AreCaused}
use Rattle.deny_build_scan.proofs.packages.see_packages.Given as goal

abbrev pub invariant-loop-place : goal.invariant-loop-place
invariant-loop-place g l = record {
  so_far : AreSoFar (g.D.PackageFiles.seen l.fn.disk).files (building_view l.config) (reached_by l.marks)
      (option_copied l.home) l.krates (g.D.PackageFiles.seen l.fn.disk) (g.D.PackageFiles.seen l.disk)
      (added l.fn.unread l.unread) (take l.place l.krates.crates) l.packages;
  longer : IsLonger l.fn.unread l.unread;
  caused : (folder : Folders) → AreFoldersOf l.krates folder → AreCaused folder (g.D.PackageFiles.seen l.fn.disk)
      (g.D.PackageFiles.seen l.disk) (added l.fn.unread l.unread);
  faults : (g.D.PackageFiles.seen l.disk).faults
      ≤ (g.D.PackageFiles.seen l.fn.disk).faults + sum_by calls_for l.packages;
  later : IsLater (g.D.PackageFiles.seen l.fn.disk) (g.D.PackageFiles.seen l.disk);
}
