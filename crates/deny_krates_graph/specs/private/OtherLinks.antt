-- Links along the edges of all kinds but one.
use Rattle.std.specs.Prelude.{◌≡◌, ◌==◌, ◌&&◌, ◌<◌, ℕ, Bool, None, not, List, filter, length, map}
use Rattle.deny_base.specs.declared.edge.DepKind.{DepKind}
use Rattle.deny_base.specs.declared.edge.Edge.{Edge}
use Rattle.deny_krates_graph.specs.private.Reach.{links_at}
use Rattle.deny_krates_sources.specs.declared.checked.Link.{Link}
use Rattle.deny_krates_sources.specs.declared.checked.ResolvedNode.{ResolvedNode}
use Rattle.deny_spec.specs.Counting.{is_of_kind}

abbrev pub link_of : Edge → Link
link_of e = record { node = e.child; needed_as = record { kind = e.kind; target = None } }

-- whether an edge begins at a place and is of another kind
unfoldable pub is_other_link : DepKind → ℕ → Edge → Bool
is_other_link kind parent e = (e.parent == parent) && not (is_of_kind kind e)

-- the links from a place
abbrev pub links_from : DepKind → List Edge → ℕ → List Link
links_from kind edges parent = map link_of (filter (is_other_link kind parent) edges)

-- a row of links for each place
pub record AreOtherLinks (kind : DepKind) (edges : List Edge) (size : ℕ) (rows : List ResolvedNode) : Type 0 where
  pub long : length rows ≡ size
  pub at : (place : ℕ) → place < size → links_at rows place ≡ links_from kind edges place
