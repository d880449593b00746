-- Paths by their components, as the standard library reads them: the root, names, and `.` and `..`.
use Rattle.std.specs.Prelude.{ℕ, ◌-◌, ◌==◌, ◌++◌, List, [], ◌∷◌, fold, length, slice_index, if◌then◌else◌}
use Rattle.std.specs.Path.{cur_dir, parent_dir, path_components, root_dir, slash}
use Rattle.deny_spec.specs.Text.{same_text}

-- a path joined to the workspace's root, unless it is absolute
unfoldable pub joined : List ℕ → List ℕ → List ℕ
joined root path =
    if slice_index path 0 == slash then path
    else (if slice_index root (length root - 1) == slash then root ++ path else root ++ (slash ∷ path))

-- a path one level up: its last name goes; the root stays, and so does each `..` that has no name before it
unfoldable pub above : List (List ℕ) → List (List ℕ)
above [] = parent_dir ∷ []
above (part ∷ []) =
    if same_text part root_dir then part ∷ [] else (if same_text part parent_dir then part ∷ parent_dir ∷ [] else [])
above (part ∷ next ∷ more) = part ∷ above (next ∷ more)

-- a path with one more component
unfoldable pub further : List (List ℕ) → List ℕ → List (List ℕ)
further path part =
    if same_text part cur_dir then path else (if same_text part parent_dir then above path else path ++ part ∷ [])

-- components without `.` and `..`, but for those `..` that lead out of a path that does not begin at the root
unfoldable pub resolved : List (List ℕ) → List (List ℕ)
resolved parts = fold further [] parts

-- the folder that an entry names
abbrev pub folder_named : List ℕ → List ℕ → List (List ℕ)
folder_named root path = resolved (path_components (joined root path))
