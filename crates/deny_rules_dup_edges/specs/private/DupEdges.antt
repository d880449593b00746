-- The number of edges of a set.
use Rattle.std.specs.Prelude.{ℕ, List, length, slice_get}
use Rattle.std.specs.Option.{option_map_or}
use Rattle.deny_rules_dup_edges.specs.declared.dup_edges.DupSet.{DupSet}

-- the number of edges of the set at this index
abbrev pub edge_count : List DupSet → ℕ → ℕ
edge_count sets number = option_map_or (λ set. length set.edges) (slice_get sets number) 0
