-- Causes of entries for what was not read: each has a bound or a failed call, and no more have calls than calls failed.
use Rattle.std.specs.Prelude.{not, List, Contains, IsTrue, ◌⊎◌, count_by}
use Rattle.deny_base_disk.specs.Count.{RoseBy}
use Rattle.deny_base_disk.specs.Disk.{Disk, FailedAt}
use Rattle.deny_base_unread.specs.Bound.{Folders, is_bound}
use Rattle.deny_base.specs.Purpose.{call_for}
use Rattle.deny_base.specs.declared.unread.Unread.{Unread}

-- an entry is caused by a bound, or by a failed call of its purpose on its path
abbrev pub IsCaused : Folders → Disk → Disk → Unread → Type 0
IsCaused folder old new u = IsTrue (is_bound folder old new u) ⊎ FailedAt old new (call_for u.purpose) u.path

-- the entries have their causes between the two disks, where this is the folder of each crate
pub record AreCaused (folder : Folders) (old new : Disk) (us : List Unread) : Type 0 where
  pub each : (u : Unread) → Contains us u → IsCaused folder old new u
  -- those that no bound explains are at most as many as calls failed
  pub few : RoseBy (count_by (λ u. not (is_bound folder old new u)) us) old.faults new.faults
