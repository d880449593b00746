-- Why a folder of a package has no list.
use Rattle.std.specs.Prelude.{ℕ, IsTrue, List, Some}
use Rattle.deny_base_disk.specs.Disk.{Disk, FailedAt}
use Rattle.deny_base_disk.specs.declared.disk.Call.TheVariants as call
use Rattle.deny_base.specs.declared.span.Kid.{Kid}
use Rattle.deny_base_unread.specs.Bound.{Folders, is_bound}
use Rattle.deny_base.specs.Unread.{asked}
use Rattle.deny_base.specs.declared.purpose.Purpose.TheVariants as purpose
use Rattle.deny_build_walk.specs.declared.folder.NoList.{NoList}
use Rattle.deny_build_walk.specs.declared.folder.NoList.TheVariants.{Crowded, Failed}
use Rattle.deny_build_walk.specs.declared.walk.Unlisted.{Unlisted}

abbrev pub CauseOf : NoList → Folders → Disk → Disk → Kid → List ℕ → Type 0
CauseOf Failed folder old new krate path = FailedAt old new call.List path
CauseOf Crowded folder old new krate path = IsTrue (is_bound folder old new (asked (Some krate) purpose.List path))

-- a call failed on the folder's path between the two disks, or the bound on entries explains its entry
abbrev pub HasCause : Folders → Disk → Disk → Kid → Unlisted → Type 0
HasCause folder old new krate n = CauseOf n.why folder old new krate n.path
