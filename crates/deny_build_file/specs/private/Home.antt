-- The rest of a path below a folder, by the parts of both.
use Rattle.std.specs.Prelude.{ℕ, ◌==◌, ◌||◌, Bool, false, not, List, [], ◌∷◌, Option, None, Some, if◌then◌else◌}
use Rattle.std.specs.Option.{option_and_then}
use Rattle.deny_spec.specs.Paths.{is_component}
use Rattle.deny_build_file.specs.Home.{parts_behind, same_name}

-- the parts after the first, if the first is this name
abbrev pub parts_after : List ℕ → List (List ℕ) → Option (List (List ℕ))
parts_after name [] = None
parts_after name (part ∷ own) = if same_name name part then Some own else None

-- the parts after the first component, if that is this name; all parts where the name is no component
abbrev pub parts_past : List ℕ → List (List ℕ) → Option (List (List ℕ))
parts_past name own = if is_component name then parts_after name (parts_behind 0 own) else Some own

-- the parts of a path from the component on that follows those of a folder, if the path begins with them
abbrev pub parts_below : List (List ℕ) → List (List ℕ) → Option (List (List ℕ))
parts_below [] own = Some (parts_behind 0 own)
parts_below (name ∷ names) own = option_and_then (λ rest. parts_below names rest) (parts_past name own)

-- the first byte is that of a component
abbrev pub begins_plainly : List ℕ → Bool
begins_plainly [] = false
begins_plainly (byte ∷ rest) = not (byte == 47 || byte == 46)
