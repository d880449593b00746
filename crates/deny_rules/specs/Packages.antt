-- What was seen of the packages of a graph, by the build configuration of a policy.
use Rattle.std.specs.Prelude.{◌≡◌, ⊤, ℕ, Bool, List, [], Option, None, Some}
use Rattle.deny_spec.specs.Building.{Building}
use Rattle.deny_spec.specs.declared.package.Package.{Package}
use Rattle.deny_spec_report.specs.Facts.{TestsReached}
use Rattle.deny_spec.specs.Graph.{Crate, Graph}
use Rattle.deny_base_disk.specs.Disk.{Disk, Files}
use Rattle.deny_build_scan.specs.Seen.{ArePackagesSeen, ArePackagesSeenBy}
use Rattle.deny_build_scan.specs.Wanted.{AreWantedPackages}
use Rattle.deny_build_scan.specs.Why.{AreFoldersOf, IsBecause}
use Rattle.deny_base_unread.specs.Bound.{Folders}
use Rattle.deny_base.specs.declared.unread.Unread.{Unread}

-- the packages were scanned by a build configuration, and by a test of which crates lead to something that is executed
-- at build time; each entry for what was not read is for something that is asked of the packages
pub record AreScanned (told : Option Files) (b : Building) (home : Option (List ℕ)) (g : Graph) (unread : List Unread)
    (packages : List Package) : Type 0 where
  pub reached : Crate → Bool
  pub reports : TestsReached g reached
  pub seen : ArePackagesSeen told b reached home g unread packages
  pub wanted : AreWantedPackages told b reached g unread packages unread

-- nothing is scanned where the policy has no build configuration
abbrev pub AreSeenBy : Option Files → Option Building → Option (List ℕ) → Graph → List Unread → List Package → Type 0
AreSeenBy told None home g unread packages = (unread ≡ []) × (packages ≡ [])
AreSeenBy told (Some b) home g unread packages = AreScanned told b home g unread packages

-- each failure that was seen has its cause between two disks
pub record AreBecause (old new : Disk) (b : Building) (home : Option (List ℕ)) (g : Graph) (unread : List Unread)
    (packages : List Package) : Type 0 where
  pub reached : Crate → Bool
  pub reports : TestsReached g reached
  pub because : (folder : Folders) → AreFoldersOf g folder
      → ArePackagesSeenBy (IsBecause folder old new) old.files b reached home g unread packages

-- where nothing is scanned, no causes are needed
abbrev pub HaveCauses : Disk → Disk → Option Building → Option (List ℕ) → Graph → List Unread → List Package → Type 0
HaveCauses old new None home g unread packages = ⊤
HaveCauses old new (Some b) home g unread packages = AreBecause old new b home g unread packages
