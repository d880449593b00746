use Rattle.std.proofs.Common.{◌≡◌, ◌+◌, ◌++◌, ◌≤◌, ℕ, map, take}
use Rattle.std.specs.List.{AllZip}
use Rattle.std.specs.Option.{option_copied}
use Rattle.deny_cfg_build.specs.BuildingView.{building_view}
use Rattle.deny_krates.specs.Crates.{crate_view}
use Rattle.deny_base_disk.specs.Disk.{IsLater}
use Rattle.deny_build_scan.specs.Failures.{calls_for_files}
use Rattle.deny_build_scan.specs.Seen.{IsFileSeen}
use Rattle.deny_build_scan.specs.Why.{IsBecause}
use Rattle.deny_build_scan.specs.private.Entries.{entries_of_all, gaps_of}
use Rattle.deny_base_unread.specs.Added.{added}
use Rattle.deny_base_unread.specs.Bound.{Folders}
use Rattle.deny_base_unread.specs.Causes.{AreCaused}
use Rattle.deny_build_scan.proofs.files.see_each.Given as goal

abbrev pub invariant-loop-path : goal.invariant-loop-path
invariant-loop-path g l = record {
  seen : (place : ℕ) (folder : Folders) → AllZip (λ path file.
      IsFileSeen (IsBecause folder (g.D.PackageFiles.seen l.fn.disk) (g.D.PackageFiles.seen l.disk))
      (g.D.PackageFiles.seen l.fn.disk).files (building_view l.config) (option_copied l.home) (gaps_of file)
      (crate_view place l.krate) path file)
      (map (λ p. p.path) (take l.path-index l.paths)) l.files;
  noted : (place : ℕ) → l.unread ≡ l.fn.unread ++ entries_of_all (building_view l.config)
      (crate_view place l.krate) (map (λ p. p.path) (take l.path-index l.paths)) l.files;
  caused : (folder : Folders) → AreCaused folder (g.D.PackageFiles.seen l.fn.disk) (g.D.PackageFiles.seen l.disk)
      (added l.fn.unread l.unread);
  faults : (g.D.PackageFiles.seen l.disk).faults
      ≤ (g.D.PackageFiles.seen l.fn.disk).faults + calls_for_files l.files;
  later : IsLater (g.D.PackageFiles.seen l.fn.disk) (g.D.PackageFiles.seen l.disk);
}
