-- How the rows of neighbours are collected from the edges.
use Rattle.std.specs.Prelude.{◌≡◌, ◌==◌, ◌<◌, ◌++◌, ◌∷◌, ℕ, List, [], Bool, false, if◌then◌else◌, length, slice_get}
use Rattle.std.specs.Prelude.{slice_index_or}
use Rattle.std.specs.Cmp.Lexicographic.{slice_cmp}
use Rattle.std.specs.Option.{option_map_or}
use Rattle.std.specs.Ordering.{nat_cmp, on, then_cmp}
use Rattle.std.specs.declared.cmp.Ordering.{Ordering}
use Rattle.std.specs.declared.cmp.Ordering.TheVariants.{Less}
use Rattle.deny_base.specs.Edge.{kind_cmp}
use Rattle.deny_base.specs.declared.edge.Edge.{Edge}
use Rattle.deny_krates_graph.specs.Crates.{graph_of}
use Rattle.deny_krates_graph.specs.Dependents.{AreDirectDependencies, AreDirectDependents, AreRows}
use Rattle.deny_krates_graph.specs.declared.direct.IncomingEdge.{IncomingEdge}
use Rattle.deny_krates_graph.specs.declared.krate.DirectDependent.{DirectDependent}
use Rattle.deny_krates_graph.specs.declared.krate.Krate.{Krate}
use Rattle.deny_spec.specs.declared.target_edge.TargetEdge.{TargetEdge}

abbrev pub id_in : List Krate → ℕ → List ℕ
id_in krates place = option_map_or (λ k. k.id.0) (slice_get krates place) []

-- no two crates have one id
pub record AreApart (krates : List Krate) : Type 0 where
  pub ids : (p q : ℕ) → p < length krates → q < length krates → id_in krates p ≡ id_in krates q → p ≡ q

-- an edge with its ends exchanged
abbrev pub reversed : Edge → Edge
reversed e = record { parent = e.child; child = e.parent; kind = e.kind }

-- a crate's rank, by its place
abbrev pub rank_in : List ℕ → ℕ → ℕ
rank_in ranks place = slice_index_or ranks place 0

-- the ranks of crates by their ids: a lower rank belongs to a lower id, and no two crates share one
pub record AreRanks (krates : List Krate) (ranks : List ℕ) : Type 0 where
  pub long : length ranks ≡ length krates
  pub below : (p q : ℕ) → p < length krates → q < length krates → rank_in ranks p < rank_in ranks q
      → slice_cmp nat_cmp (id_in krates p) (id_in krates q) ≡ Less
  pub apart : (p q : ℕ) → p < length krates → q < length krates → rank_in ranks p ≡ rank_in ranks q → p ≡ q

-- an edge with the rank of its parent
abbrev pub incoming_of : List ℕ → Edge → IncomingEdge
incoming_of ranks e = record { child = e.child; rank = rank_in ranks e.parent; kind = e.kind; parent = e.parent }

abbrev pub incoming_cmp : IncomingEdge → IncomingEdge → Ordering
incoming_cmp = then_cmp (on (λ a. a.child) nat_cmp)
    (then_cmp (on (λ a. a.rank) nat_cmp) (then_cmp (on (λ a. a.kind) kind_cmp) (on (λ a. a.parent) nat_cmp)))

-- whether the last dependent of a row has this place
abbrev pub is_last : List DirectDependent → ℕ → Bool
is_last [] place = false
is_last (d ∷ []) place = d.place == place
is_last (d ∷ e ∷ ds) place = is_last (e ∷ ds) place

-- a row with one dependent more, which counts once
abbrev pub with_dependent : List DirectDependent → DirectDependent → List DirectDependent
with_dependent ds d = if is_last ds d.place then ds else ds ++ d ∷ []

-- the row of a crate after an incoming edge, which may be that of another crate
abbrev pub with_incoming : ℕ → List DirectDependent → IncomingEdge → List DirectDependent
with_incoming child ds a = if a.child == child then with_dependent ds (record { place = a.parent; kind = a.kind }) else
    ds

-- the rows of dependents of these crates, in every graph of them with these edges
abbrev pub AreDependents : List Krate → List Edge → List (List DirectDependent) → Type 0
AreDependents krates edges rows =
    (targeted : List TargetEdge) (root members : List ℕ) → AreRows (graph_of targeted root krates members edges)
    (AreDirectDependents (graph_of targeted root krates members edges)) rows

abbrev pub AreDependencies : List Krate → List Edge → List (List DirectDependent) → Type 0
AreDependencies krates edges rows =
    (targeted : List TargetEdge) (root members : List ℕ) → AreRows (graph_of targeted root krates members edges)
    (AreDirectDependencies (graph_of targeted root krates members edges)) rows
