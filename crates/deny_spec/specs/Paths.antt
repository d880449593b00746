-- Paths by their components.
use Rattle.std.specs.Prelude.{ℕ, ◌+◌, ◌==◌, ◌||◌, Bool, not, List, codes, filter, if◌then◌else◌}
use Rattle.std.specs.Cmp.Lexicographic.{pointwise, slice_cmp}
use Rattle.std.specs.List.{slice_split}
use Rattle.std.specs.Ordering.{nat_cmp, on}
use Rattle.std.specs.Str.{bytes_eq}
use Rattle.std.specs.declared.cmp.Ordering.{Ordering}
use Rattle.deny_spec.specs.Text.{same_text}

abbrev pub is_slash : ℕ → Bool
is_slash byte = byte == 47

-- the parts of a path between its slashes
abbrev pub parts : List ℕ → List (List ℕ)
parts path = slice_split is_slash path

-- a part that is empty or `.` leads nowhere, and is no component
abbrev pub is_component : List ℕ → Bool
is_component part = not (bytes_eq part (codes "") || bytes_eq part (codes "."))

-- the components of a path: the names along it, and each `..`
unfoldable pub components : List ℕ → List (List ℕ)
components path = filter is_component (parts path)

-- both paths have the same components
unfoldable pub same_path : List ℕ → List ℕ → Bool
same_path a b = pointwise same_text (components a) (components b)

-- the order of paths by their components, as far as they have no empty ones: a slash comes before all other bytes
abbrev pub rank : ℕ → ℕ
rank byte = if is_slash byte then 0 else byte + 1

abbrev pub path_cmp : List ℕ → List ℕ → Ordering
path_cmp = slice_cmp (on rank nat_cmp)
