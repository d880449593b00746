-- On a disk that tells its files, what is seen of packages is determined.
use Rattle.std.specs.Prelude.{◌≡◌, ℕ, Bool, List, Option, Some}
use Rattle.deny_spec.specs.Building.{Building}
use Rattle.deny_spec.specs.declared.package.Package.{Package}
use Rattle.deny_spec_report.specs.Facts.{TestsReached}
use Rattle.deny_spec.specs.Graph.{Crate, Graph}
use Rattle.deny_base_disk.specs.Disk.{Files}
use Rattle.deny_build_scan.specs.Failures.{failures_in}
use Rattle.deny_build_scan.specs.Seen.{ArePackagesSeen}
use Rattle.deny_base.specs.declared.unread.Unread.{Unread}

-- the files, the policy, the graph, the home, the entries for what was not read, and how that failed determine what
-- is seen
abbrev pub HasOneSight : Building → Graph → Type 0
HasOneSight b g = (files : Files) (reached other_reached : Crate → Bool) (home : Option (List ℕ))
    (unread : List Unread) (packages others : List Package)
    → TestsReached g reached → TestsReached g other_reached
    → ArePackagesSeen (Some files) b reached home g unread packages
    → ArePackagesSeen (Some files) b other_reached home g unread others
    → failures_in packages ≡ failures_in others → packages ≡ others
