-- The direct dependents and dependencies of a crate, as the graph keeps them.
use Rattle.std.specs.Prelude.{◌≡◌, ◌≤◌, ℕ, List, [], map, length, slice_get, Some, All, Contains}
use Rattle.std.specs.Cmp.Lexicographic.{slice_cmp}
use Rattle.std.specs.List.Sorted.{IsStrictlySortedBy}
use Rattle.std.specs.Option.{option_map_or}
use Rattle.std.specs.Ordering.{nat_cmp, on}
use Rattle.std.specs.declared.cmp.Ordering.{Ordering}
use Rattle.deny_base.specs.Edge.{kind_number}
use Rattle.deny_base.specs.declared.edge.DepKind.{DepKind}
use Rattle.deny_base.specs.declared.edge.Edge.{Edge}
use Rattle.deny_krates_graph.specs.declared.krate.DirectDependent.{DirectDependent}
use Rattle.deny_spec.specs.Graph.{Crate, Graph, dependencies, dependents}

abbrev pub id_at : Graph → ℕ → List ℕ
id_at g place = option_map_or (λ c. c.id) (slice_get g.crates place) []

abbrev pub by_id : Graph → DirectDependent → DirectDependent → Ordering
by_id g = on (λ d. id_at g d.place) (slice_cmp nat_cmp)

-- an edge of the neighbour's kind joins it, and no edge of a lesser kind does
pub record IsLeastKind (edges : List Edge) (joining : ℕ → DepKind → Edge) (d : DirectDependent) : Type 0 where
  pub holds : Contains edges (joining d.place d.kind)
  pub least : (kind : DepKind) → Contains edges (joining d.place kind) → kind_number d.kind ≤ kind_number kind

-- the neighbours are these crates, each once, ascending by id, with the least kinds of the edges that join them
pub record AreNeighbours (g : Graph) (crates : List Crate) (joining : ℕ → DepKind → Edge)
    (ds : List DirectDependent) : Type 0 where
  pub ascending : IsStrictlySortedBy (by_id g) ds
  pub whole : All (λ c. Contains (map (λ d. d.place) ds) c.place) crates
  pub sound : All (λ d. Contains (map (λ c. c.place) crates) d.place) ds
  pub kinds : All (IsLeastKind g.edges joining) ds

-- the neighbours are the crates with an edge to the crate at this place
abbrev pub AreDirectDependents : Graph → ℕ → List DirectDependent → Type 0
AreDirectDependents g place ds =
    AreNeighbours g (dependents g place) (λ parent kind. record { parent = parent; child = place; kind = kind }) ds

-- the neighbours are the crates that an edge from the crate at this place leads to
abbrev pub AreDirectDependencies : Graph → ℕ → List DirectDependent → Type 0
AreDirectDependencies g place ds =
    AreNeighbours g (dependencies g place) (λ child kind. record { parent = place; child = child; kind = kind }) ds

-- a row for each crate
pub record AreRows (g : Graph) (are : ℕ → List DirectDependent → Type 0) (rows : List (List DirectDependent)) : Type
    0 where
  pub length : length rows ≡ length g.crates
  pub each : (place : ℕ) (row : List DirectDependent) → slice_get rows place ≡ Some row → are place row
