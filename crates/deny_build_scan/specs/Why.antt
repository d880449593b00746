-- Why something of a package was not read.
use Rattle.std.specs.Prelude.{◌≡◌, Contains, IsTrue, Some}
use Rattle.deny_spec.specs.declared.package.Failure.{Failure}
use Rattle.deny_spec.specs.declared.package.Failure.TheVariants.{Crowded, Long, Unlisted, Unreadable}
use Rattle.deny_spec.specs.Crates as crates
use Rattle.deny_spec.specs.Graph.{Crate, Graph, kid_of}
use Rattle.deny_base_disk.specs.Disk.{Disk, FailedAt}
use Rattle.deny_base_unread.specs.Bound.{Folders, is_bound}
use Rattle.deny_base.specs.Purpose.{call_for}
use Rattle.deny_base.specs.declared.purpose.Purpose.{Purpose}
use Rattle.deny_base.specs.declared.purpose.Purpose.TheVariants as purpose
use Rattle.deny_base.specs.declared.unread.Unread.{Unread}

-- the reason of a failure: a relation between entries and failures
abbrev pub Why : Type 1
Why = Unread → Failure → Type 0

-- the failures that reading for a purpose can have
pub data CanFail : Purpose → Failure → Type 0 where
  script : CanFail purpose.Script Unreadable
  long_script : CanFail purpose.Script Long
  listing : CanFail purpose.List Unlisted
  long_listing : CanFail purpose.List Crowded
  header : CanFail purpose.Header Unreadable
  file : CanFail purpose.Sum Unreadable
  long_file : CanFail purpose.Sum Long

abbrev pub IsOfPurpose : Why
IsOfPurpose u failure = CanFail u.purpose failure

-- the cause of a failure: a call of the purpose failed, or a bound explains it
abbrev pub HasCause : Folders → Disk → Disk → Unread → Failure → Type 0
HasCause folder old new u Unreadable = FailedAt old new (call_for u.purpose) u.path
HasCause folder old new u Long = IsTrue (is_bound folder old new u)
HasCause folder old new u Unlisted = FailedAt old new (call_for u.purpose) u.path
HasCause folder old new u Crowded = IsTrue (is_bound folder old new u)

-- the failure is one of the entry's purpose, and has its cause between two disks; `folder` gives the folder of each
-- crate
pub record IsBecause (folder : Folders) (old new : Disk) (u : Unread) (failure : Failure) : Type 0 where
  pub can : IsOfPurpose u failure
  pub cause : HasCause folder old new u failure

-- the folder of each crate of a graph is its own
abbrev pub AreFoldersOf : Graph → Folders → Type 0
AreFoldersOf g folder = (c : Crate) → Contains g.crates c → folder (Some (kid_of c)) ≡ crates.folder c
