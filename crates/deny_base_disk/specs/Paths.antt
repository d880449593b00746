-- The paths at which files are put: not empty, and behind each slash a name that a folder's child can have.
use Rattle.std.specs.Prelude.{ℕ, ◌==◌, ◌&&◌, Bool, true, not, List, [], ◌∷◌, codes, length, if◌then◌else◌}
use Rattle.std.specs.List.{before_first}
use Rattle.std.specs.Str.{bytes_eq}

-- a slash has the code 47
abbrev pub is_slash : ℕ → Bool
is_slash byte = byte == 47

-- not empty, and neither `.` nor `..`
abbrev pub is_name : List ℕ → Bool
is_name name = not (length name == 0) && (not (bytes_eq name (codes ".")) && not (bytes_eq name (codes "..")))

-- behind each slash stands a name, up to the next slash or the end
abbrev pub names_behind : List ℕ → Bool
names_behind [] = true
names_behind (byte ∷ bytes) =
    (if is_slash byte then is_name (before_first is_slash bytes) else true) && names_behind bytes

abbrev pub is_path : List ℕ → Bool
is_path path = not (length path == 0) && names_behind path
