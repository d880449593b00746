-- Scripts: files that begin with `#!`, and the interpreter that their first line names.
use Rattle.std.specs.Prelude.{ℕ, ◌-◌, ◌==◌, ◌&&◌, Bool, nat_eq, nat_lt, List, [], ◌∷◌, codes, length, take, Option}
use Rattle.std.specs.Prelude.{None, Some, option_map, if◌then◌else◌}
use Rattle.std.specs.List.{position, slice_index_or, slice_split, starts_with, ends_with}
use Rattle.std.specs.Option.{option_and_then}
use Rattle.std.specs.Str.{is_utf8}
use Rattle.deny_spec.specs.Paths.{parts}

abbrev pub begins : List ℕ → List ℕ → Bool
begins bytes prefix = starts_with nat_eq bytes prefix

abbrev pub ends : List ℕ → List ℕ → Bool
ends bytes end = ends_with nat_eq bytes end

abbrev pub is_newline : ℕ → Bool
is_newline byte = byte == 10

abbrev pub is_space : ℕ → Bool
is_space byte = byte == 32

abbrev pub last_of : List (List ℕ) → List ℕ
last_of parts = slice_index_or parts (length parts - 1) []

-- the text after the last slash; all of it where there is none
unfoldable pub last_part : List ℕ → List ℕ
last_part text = last_of (parts text)

-- the path is that of a Rust source file: its name ends with `.rs` after at least one byte
unfoldable pub is_rust_path : List ℕ → Bool
is_rust_path path = nat_lt 3 (length (last_part path)) && ends (last_part path) (codes ".rs")

-- the first line of a text that has a newline
abbrev pub line_in : List ℕ → Option (List ℕ)
line_in text = option_map (λ end. take end text) (position is_newline text)

-- the first line of a file whose first newline is among the first 256 bytes
unfoldable pub first_line : List ℕ → Option (List ℕ)
first_line bytes = line_in (take 256 bytes)

abbrev pub first_of : List (List ℕ) → Option (List ℕ)
first_of [] = None
first_of (part ∷ parts) = Some part

-- the name of the interpreter by the parts from its own on: after `/env` the next part, or else the part without its
-- folder
unfoldable pub named_past_env : List (List ℕ) → Option (List ℕ)
named_past_env [] = None
named_past_env (part ∷ parts) = if ends part (codes "/env") then first_of parts else Some (last_part part)

-- the interpreter is the first part of a line, or the second where the first ends with `#!`
unfoldable pub named_by : List (List ℕ) → Option (List ℕ)
named_by [] = None
named_by (part ∷ parts) = if ends part (codes "#!") then named_past_env parts else named_past_env (part ∷ parts)

-- an attribute at the head of a Rust source file names no interpreter
abbrev pub interpreter_of_text : List ℕ → List ℕ → Option (List ℕ)
interpreter_of_text path line =
    if begins line (codes "#![") && is_rust_path path then None else named_by (slice_split is_space line)

-- a line that is not UTF-8 names no interpreter
unfoldable pub interpreter_by : List ℕ → List ℕ → Option (List ℕ)
interpreter_by path line = if is_utf8 line then interpreter_of_text path line else None

-- the interpreter named by the file at a path with these bytes
unfoldable pub interpreter_in : List ℕ → List ℕ → Option (List ℕ)
interpreter_in path bytes =
    if begins bytes (codes "#!") then option_and_then (interpreter_by path) (first_line bytes) else None
