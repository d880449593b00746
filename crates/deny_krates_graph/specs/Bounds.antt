-- How long the lock text of a graph is, and how many nodes it has.
use Rattle.std.specs.Prelude.{ℕ, ◌+◌, List, [], ◌∷◌, length, unwrap_or}
use Rattle.semver.specs.Identifiers.{parts_text}
use Rattle.deny_spec.specs.Crates.{folder}
use Rattle.deny_spec.specs.Graph.{Crate}

-- the length of a crate's line: its name, its version, and its source or else its folder, with two blanks and a
-- newline
abbrev pub lock_line_length : Crate → ℕ
lock_line_length c = length c.name + (length (parts_text c.version) + (length (unwrap_or c.source_text (folder c)) + 3))

abbrev pub lock_length : List Crate → ℕ
lock_length [] = 0
lock_length (c ∷ cs) = lock_line_length c + lock_length cs

-- the number of nodes: each crate is one, and each of its enabled features
abbrev pub node_count : List Crate → ℕ
node_count [] = 0
node_count (c ∷ cs) = (1 + length c.enabled) + node_count cs
