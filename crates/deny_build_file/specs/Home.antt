-- How the path of a file is shown: below cargo's home, below the folder of its crate, or as it is.
use Rattle.std.specs.Prelude.{ℕ, zero, suc, ◌&&◌, ◌++◌, Bool, nat_eq, not, List, [], ◌∷◌, codes, length, Option, None}
use Rattle.std.specs.Prelude.{Some, if◌then◌else◌}
use Rattle.std.specs.Cmp.Lexicographic.{pointwise}
use Rattle.std.specs.List.{join_by, starts_with}
use Rattle.std.specs.Option.{option_and_then}
use Rattle.deny_spec.specs.Paths.{components, is_component, parts}
use Rattle.deny_build_file.specs.Script.{begins}

-- the path is absolute
abbrev pub is_absolute : List ℕ → Bool
is_absolute path = begins path (codes "/")

-- both paths are absolute, or both are relative
abbrev pub same_start : Bool → Bool → Bool
same_start a b = if a then b else not b

abbrev pub same_name : List ℕ → List ℕ → Bool
same_name = pointwise nat_eq

-- the components of a folder are the first ones of the path
unfoldable pub lies_in : List ℕ → List ℕ → Bool
lies_in folder path = same_start (is_absolute folder) (is_absolute path)
    && starts_with same_name (components path) (components folder)

-- the parts from the component on that follows this many components
abbrev pub parts_behind : ℕ → List (List ℕ) → List (List ℕ)
parts_behind count [] = []
parts_behind zero (part ∷ parts) = if is_component part then part ∷ parts else parts_behind zero parts
parts_behind (suc count) (part ∷ parts) =
    if is_component part then parts_behind count parts else parts_behind (suc count) parts

-- the rest of a path, as it is written, below a folder in which it lies
unfoldable pub rest_below : List ℕ → List ℕ → Option (List ℕ)
rest_below folder path =
    if lies_in folder path
    then Some (join_by (λ part. part) (codes "/") (parts_behind (length (components folder)) (parts path)))
    else None

-- shown by the rest below the home, or else by the rest below the root
abbrev pub path_shown : List ℕ → Option (List ℕ) → Option (List ℕ) → List ℕ
path_shown path (Some rest) below_root = codes "$CARGO_HOME/" ++ rest
path_shown path None (Some rest) = codes "$crate/" ++ rest
path_shown path None None = path

abbrev pub below_home : List ℕ → Option (List ℕ) → Option (List ℕ)
below_home path home = option_and_then (λ folder. rest_below folder path) home

-- the path of a file as it is shown, by the folder of its crate and by cargo's home, if there is one
unfoldable pub home_path : List ℕ → List ℕ → Option (List ℕ) → List ℕ
home_path path root home = path_shown path (below_home path home) (rest_below root path)
