-- What is taken from the list of a folder: paths of folders become pending, paths of files are found.
use Rattle.std.specs.Prelude.{ℕ, ◌&&◌, not, Bool, true, false, if◌then◌else◌, List, Option, None, Some}
use Rattle.deny_base_disk.specs.Children.{child}
use Rattle.deny_base_disk.specs.declared.disk.Entry.{Entry}
use Rattle.deny_build_walk.specs.Walk.{is_left_out}

abbrev pub same : Bool → Bool → Bool
same true b = b
same false b = not b

-- an entry is of the kind asked for (folder or file), and is not left out
unfoldable pub is_taken : Bool → List ℕ → List ℕ → Bool → Entry → Bool
is_taken by_git root folder is_folder entry =
    same is_folder entry.folder && not (is_left_out by_git root folder entry.name)

-- the path of an entry that is taken
abbrev pub path_taken : Bool → List ℕ → List ℕ → Bool → Entry → Option (List ℕ)
path_taken by_git root folder is_folder entry =
    if is_taken by_git root folder is_folder entry then Some (child folder entry.name) else None
