-- The checks of all crates of a graph, joined.
use Rattle.std.specs.Prelude.{◌≡◌, ◌++◌, Bool, List, Option, ℕ}
use Rattle.std.specs.List.{AllZip, flat_map}
use Rattle.deny_base.specs.declared.key.Key.{Key}
use Rattle.deny_base.specs.declared.unread.Unread.{Unread}
use Rattle.deny_base_disk.specs.Disk.{Disk, Files}
use Rattle.deny_base_unread.specs.Added.{added}
use Rattle.deny_spec.specs.Building.{Building}
use Rattle.deny_spec.specs.Graph.{Crate, Graph}
use Rattle.deny_spec.specs.declared.package.Package.{Package}
use Rattle.deny_spec_report.specs.Packages.{Scanning, bypass_hits, package_keys}
use Rattle.deny_build_scan.specs.Seen.{ArePackagesSeen}
use Rattle.deny_build_scan.specs.Wanted.{AreWantedPackages}
use Rattle.deny_build.specs.Joined.{alone}
use Rattle.deny_build.specs.OneCrate.{IsBuildChecked}
use Rattle.deny_build.specs.declared.krate_check.BuildNotes.{BuildNotes}

-- the check of one crate: the disk, the keys and the notes, before and after it
pub record OneCheck : Type 0 where
  pub before : Disk
  pub after : Disk
  pub old_keys : List Key
  pub new_keys : List Key
  pub old : BuildNotes
  pub new : BuildNotes

-- this is a check of a crate, on a disk that tells these files
pub record IsCheckOf (told : Option Files) (b : Building) (g : Graph) (reached : Crate → Bool)
    (home : Option (List ℕ)) (c : Crate) (k : OneCheck) : Type 0 where
  pub files : k.before.files ≡ told
  pub is : IsBuildChecked k.before k.after b g reached home c k.old_keys k.new_keys k.old k.new

-- what a check could not read
abbrev pub unread_of : OneCheck → List Unread
unread_of k = added k.old.unread k.new.unread

-- a check adds the keys and hits of a crate of those that are judged
pub record AddsAlone (l : Scanning) (c : Crate) (k : OneCheck) : Type 0 where
  pub keys : k.new_keys ≡ k.old_keys ++ package_keys (alone l c) c
  pub hits : k.new.hits ≡ k.old.hits ++ bypass_hits (alone l c)

-- all crates were checked: their packages were seen, with the entries of all checks, each of which is wanted; and by
-- these packages each check adds the keys and the hits of its crate
pub record AreAllChecked (told : Option Files) (b : Building) (g : Graph) (reached : Crate → Bool)
    (home : Option (List ℕ)) (checks : List OneCheck) : Type 0 where
  pub packages : List Package
  pub seen : ArePackagesSeen told b reached home g (flat_map unread_of checks) packages
  pub wanted : AreWantedPackages told b reached g (flat_map unread_of checks) packages (flat_map unread_of checks)
  pub each : AllZip (AddsAlone (record { building = b; graph = g; packages = packages; reached = reached })) g.crates
      checks

-- checks of each crate of a graph are a check of all
abbrev pub JoinsChecks : Graph → Type 0
JoinsChecks g = (told : Option Files) (b : Building) (reached : Crate → Bool) (home : Option (List ℕ))
    (checks : List OneCheck) → AllZip (IsCheckOf told b g reached home) g.crates checks
    → AreAllChecked told b g reached home checks
