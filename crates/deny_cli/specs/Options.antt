-- Options among the arguments.
use Rattle.std.specs.Prelude.{ℕ, List, Option, Some, None, drop, length, nat_eq, if◌then◌else◌}
use Rattle.std.specs.List.{starts_with}

-- the rest of an argument behind a prefix, if it has that
unfoldable pub behind : List ℕ → List ℕ → Option (List ℕ)
behind prefix argument = if starts_with nat_eq argument prefix then Some (drop (length prefix) argument) else None
