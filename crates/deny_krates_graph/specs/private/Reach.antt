-- The nodes that links lead to from a start.
use Rattle.std.specs.Prelude.{◌≡◌, ℕ, List, [], Bool, true, length, map, Contains, slice_get}
use Rattle.std.specs.Option.{option_map_or}
use Rattle.deny_krates_graph.specs.Filtered.{is_marked}
use Rattle.deny_krates_sources.specs.declared.checked.Link.{Link}
use Rattle.deny_krates_sources.specs.declared.checked.ResolvedNode.{ResolvedNode}

abbrev pub links_at : List ResolvedNode → ℕ → List Link
links_at rows node = option_map_or (λ row. row.links) (slice_get rows node) []

-- a link leads from one node to another
abbrev pub link_leads : List ResolvedNode → ℕ → ℕ → Type 0
link_leads rows from to = Contains (map (λ l. l.node) (links_at rows from)) to

-- a chain of links leads to a node from a start
pub data Reaches (rows : List ResolvedNode) (starts : List ℕ) : ℕ → Type 0 where
  from_start : (node : ℕ) → Contains starts node → Reaches rows starts node
  by_link : (node : ℕ) (l : Link) → Reaches rows starts node → Contains (links_at rows node) l
      → Reaches rows starts l.node

-- a mark for each node: whether it is reached
pub record AreReached (rows : List ResolvedNode) (starts : List ℕ) (marks : List Bool) : Type 0 where
  pub long : length marks ≡ length rows
  pub sound : (node : ℕ) → is_marked marks node ≡ true → Reaches rows starts node
  pub whole : (node : ℕ) → Reaches rows starts node → is_marked marks node ≡ true
