-- The children of a folder, and their paths.
use Rattle.std.specs.Prelude.{ℕ, ◌&&◌, ◌++◌, not, nat_eq, if◌then◌else◌, Bool, IsTrue, All, List, [], codes, drop}
use Rattle.std.specs.Prelude.{length, map, Option, Some, None, option_map}
use Rattle.std.specs.Option.{option_and_then}
use Rattle.std.specs.List.{ends_with, filter_map, list_any, starts_with}
use Rattle.std.specs.List.Sorted.{IsStrictlySortedBy}
use Rattle.std.specs.Ordering.{nat_cmp}
use Rattle.std.specs.Cmp.Lexicographic.{slice_cmp}
use Rattle.std.specs.FinMap as finite
use Rattle.deny_base_disk.specs.Disk.{Files, is_folder}
use Rattle.deny_base_disk.specs.Paths.{is_name, is_slash}
use Rattle.deny_base_disk.specs.declared.disk.Entry.{Entry}
use Rattle.deny_base_disk.specs.declared.disk.Place.{Place}

-- the names that a child can have
abbrev pub is_child_name : List ℕ → Bool
is_child_name name = is_name name && not (list_any is_slash name)

-- the prefix of the paths of a folder's children: its path, and a slash where that ends with none
unfoldable pub prefix_of : List ℕ → List ℕ
prefix_of dir = if ends_with nat_eq dir (codes "/") then dir else dir ++ codes "/"

-- the path of a folder's child
abbrev pub child : List ℕ → List ℕ → List ℕ
child dir name = prefix_of dir ++ name

abbrev pub if_child_name : List ℕ → Option (List ℕ)
if_child_name name = if is_child_name name then Some name else None

-- the rest of a path behind a prefix, if it begins with that
unfoldable pub text_behind : List ℕ → List ℕ → Option (List ℕ)
text_behind prefix path = if starts_with nat_eq path prefix then Some (drop (length prefix) path) else None

-- the name behind this prefix, at the path of a child
abbrev pub name_behind : List ℕ → List ℕ → Option (List ℕ)
name_behind prefix path = option_and_then if_child_name (text_behind prefix path)

-- the entry of a path as a child of the folder with this prefix, if it is one
abbrev pub entry_behind : List ℕ → List ℕ × Place → Option Entry
entry_behind prefix at =
    option_map (λ name. record { name = name; folder = is_folder (Some at.1) }) (name_behind prefix at.0)

-- the children of a folder; none where no folder is at the path
unfoldable pub children : Files → List ℕ → List Entry
children files dir =
    if is_folder (finite.get files dir) then filter_map (entry_behind (prefix_of dir)) (finite.entries files) else []

-- the entries that listing gives on any disk have names that children can have, ascending, each once
pub record AreListed (entries : List Entry) : Type 0 where
  pub names : All (λ entry. IsTrue (is_child_name entry.name)) entries
  pub ascending : IsStrictlySortedBy (slice_cmp nat_cmp) (map (λ entry. entry.name) entries)
