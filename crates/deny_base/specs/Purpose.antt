-- Purposes for which files and folders of a crate are read: their order, the call that reads for each, the size from
-- which on nothing is read for it, and the count that reading for it raises.
use Rattle.std.specs.Prelude.{ℕ, ◌+◌, ◌^◌, Option, None, Some}
use Rattle.std.specs.Ordering.{nat_cmp, on}
use Rattle.std.specs.declared.cmp.Ordering.{Ordering}
use Rattle.deny_base_disk.specs.Disk.{Disk}
use Rattle.deny_base_disk.specs.declared.disk.Call.{Call}
use Rattle.deny_base_disk.specs.declared.disk.Call.TheVariants as call
use Rattle.deny_base.specs.declared.purpose.Purpose.{Purpose}
use Rattle.deny_base.specs.declared.purpose.Purpose.TheVariants as purpose

-- purposes are ordered as they are declared
unfoldable pub purpose_number : Purpose → ℕ
purpose_number purpose.Manifest = 0
purpose_number purpose.Script = 1
purpose_number purpose.List = 2
purpose_number purpose.Header = 3
purpose_number purpose.Sum = 4

abbrev pub purpose_cmp : Purpose → Purpose → Ordering
purpose_cmp = on purpose_number nat_cmp

-- the call that reads for the purpose
abbrev pub call_for : Purpose → Call
call_for purpose.Manifest = call.Read
call_for purpose.Script = call.Read
call_for purpose.List = call.List
call_for purpose.Header = call.Read
call_for purpose.Sum = call.Read

-- the least number of bytes, or of entries of all folders of a package, that is too many; a header has no limit
abbrev pub limit_for : Purpose → Option ℕ
limit_for purpose.Manifest = Some (2 ^ 28)
limit_for purpose.Script = Some (2 ^ 40)
limit_for purpose.List = Some (2 ^ 24 + 1)
limit_for purpose.Header = None
limit_for purpose.Sum = Some (2 ^ 40)

-- the count of the disk that reading for the purpose raises: entries of folders, or bytes of files
abbrev pub spent_for : Purpose → Disk → ℕ
spent_for purpose.Manifest disk = disk.given
spent_for purpose.Script disk = disk.given
spent_for purpose.List disk = disk.listed
spent_for purpose.Header disk = disk.given
spent_for purpose.Sum disk = disk.given
