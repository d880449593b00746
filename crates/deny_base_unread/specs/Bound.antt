-- Whether a bound explains that something was not read. This is computed from the disk before and after: no one has to
-- say which cause an entry has.
use Rattle.std.specs.Prelude.{ℕ, Bool, false, ◌||◌, nat_eq, nat_le, List, filter, length, sum_by, Option, None, Some}
use Rattle.std.specs.Prelude.{option_map}
use Rattle.std.specs.FinMap as finite
use Rattle.std.specs.List.{starts_with}
use Rattle.std.specs.Str.{bytes_eq}
use Rattle.deny_base_disk.specs.Children.{children, prefix_of}
use Rattle.deny_base_disk.specs.Count.{counted}
use Rattle.deny_base_disk.specs.Disk.{Disk, Files, bytes_at}
use Rattle.deny_base.specs.declared.span.Kid.{Kid}
use Rattle.deny_base.specs.Purpose.{limit_for, spent_for}
use Rattle.deny_base.specs.declared.purpose.Purpose.{Purpose}
use Rattle.deny_base.specs.declared.purpose.Purpose.TheVariants as purpose
use Rattle.deny_base.specs.declared.unread.Unread.{Unread}

-- the folder of each crate
abbrev pub Folders : Type 0
Folders = Option Kid → List ℕ

-- a folder itself, or what lies below it
abbrev pub is_in : List ℕ → List ℕ → Bool
is_in folder path = bytes_eq path folder || starts_with nat_eq path (prefix_of folder)

-- how many entries this folder and those below it list together
unfoldable pub entries_in : Files → List ℕ → ℕ
entries_in files folder =
    sum_by (λ path. length (children files path)) (filter (is_in folder) (finite.keys files))

-- the size, where the files are told, of what is read of a crate in this folder; for a list it is the number of entries
-- of all folders of the crate
abbrev pub size_told : Files → List ℕ → Purpose → List ℕ → ℕ
size_told files folder purpose.Manifest path = length (bytes_at files path)
size_told files folder purpose.Script path = length (bytes_at files path)
size_told files folder purpose.List path = entries_in files folder
size_told files folder purpose.Header path = length (bytes_at files path)
size_told files folder purpose.Sum path = length (bytes_at files path)

-- a size reaches the limit; where no size is told, the count rose by as much
abbrev pub is_past : Option ℕ → Option ℕ → ℕ → ℕ → Bool
is_past None size before after = false
is_past (Some limit) (Some size) before after = nat_le limit size
is_past (Some limit) None before after = nat_le (counted before limit) after

-- whether a bound explains an entry between the two disks, where this is the folder of each crate
unfoldable pub is_bound : Folders → Disk → Disk → Unread → Bool
is_bound folder old new u =
    is_past (limit_for u.purpose) (option_map (λ files. size_told files (folder u.krate) u.purpose u.path) old.files)
    (spent_for u.purpose old) (spent_for u.purpose new)
