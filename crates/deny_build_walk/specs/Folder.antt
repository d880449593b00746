-- The list of one folder, where there is room for a number of entries.
use Rattle.std.specs.Prelude.{ℕ, ◌+◌, ◌≤◌, List, length, IfSome}
use Rattle.deny_base_disk.specs.Children.{children}
use Rattle.deny_base_disk.specs.Count.{RoseBy}
use Rattle.deny_base_disk.specs.Disk.{Disk, FailedAt, Files}
use Rattle.deny_base_disk.specs.declared.disk.Call.TheVariants as call
use Rattle.deny_build_walk.specs.declared.folder.NoList.{NoList}
use Rattle.deny_build_walk.specs.declared.folder.NoList.TheVariants.{Crowded, Failed}

-- how many entries a folder has
abbrev pub entries_of : Files → List ℕ → ℕ
entries_of files path = length (children files path)

-- where the disk tells its files, listing gave at most this number of entries between the two disks
abbrev pub ListedAtMost : Disk → Disk → (Files → ℕ) → Type 0
ListedAtMost old new entries = IfSome old.files (λ files. new.listed ≤ old.listed + entries files)

-- listing gave at most as many entries as the folder at the path has
abbrev pub ListedOnce : Disk → Disk → List ℕ → Type 0
ListedOnce old new path = ListedAtMost old new (λ files. entries_of files path)

-- the folder has more entries than there is room for: more were listed, and told files hold more
pub record IsCrowded (old new : Disk) (path : List ℕ) (room : ℕ) : Type 0 where
  pub listed : RoseBy (room + 1) old.listed new.listed
  pub told : IfSome old.files (λ files. room + 1 ≤ length (children files path))

-- the cause of a folder without a list
abbrev pub IsUnlisted : NoList → Disk → Disk → List ℕ → ℕ → Type 0
IsUnlisted Failed old new path room = FailedAt old new call.List path
IsUnlisted Crowded old new path room = IsCrowded old new path room

-- how many calls failed, at most, where a folder has no list for this reason
abbrev pub failed_calls : NoList → ℕ
failed_calls Failed = 1
failed_calls Crowded = 0
