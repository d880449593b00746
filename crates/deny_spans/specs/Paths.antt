-- The paths of the workspace's own files.
use Rattle.std.specs.Prelude.{ℕ, ◌-◌, ◌==◌, ◌++◌, List, ◌∷◌, codes, length, slice_index, if◌then◌else◌}
use Rattle.std.specs.Path.{slash}

-- the path of the manifest in the root of a workspace
unfoldable pub workspace_path : List ℕ → List ℕ
workspace_path root =
    if slice_index root (length root - 1) == slash then root ++ codes "Cargo.toml"
    else root ++ (slash ∷ codes "Cargo.toml")

-- the path of the lock text, by the name that is given to it
unfoldable pub lock_path : List ℕ → List ℕ
lock_path name = name ++ codes "/Cargo.lock"
