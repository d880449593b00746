-- What a graph keeps besides its crates and edges.
use Rattle.std.specs.Prelude.{◌≡◌, ◌<◌, ◌^◌, ℕ, List, length}
use Rattle.std.specs.Cmp.Lexicographic.{slice_cmp}
use Rattle.std.specs.List.Sorted.{IsSortedByKey}
use Rattle.std.specs.Ordering.{nat_cmp}
use Rattle.deny_base.specs.declared.edge.Edge.{Edge}
use Rattle.deny_krates_graph.specs.Bounds.{lock_length, node_count}
use Rattle.deny_krates_graph.specs.Crates.{crates_from, graph_of}
use Rattle.deny_krates_graph.specs.Dependents.{AreDirectDependencies, AreDirectDependents, AreRows}
use Rattle.deny_krates_graph.specs.IdEntries.{AreIds}
use Rattle.deny_krates_graph.specs.Orderly.{IsOrderly}
use Rattle.deny_krates.specs.private.NodeNumbers.{first_features_of}
use Rattle.deny_krates.specs.private.Resolved.{AreResolved}
use Rattle.deny_krates_graph.specs.declared.ids.IdEntry.{IdEntry}
use Rattle.deny_krates.specs.declared.resolved.ResolvedAt.{ResolvedAt}
use Rattle.deny_krates_graph.specs.declared.krate.DirectDependent.{DirectDependent}
use Rattle.deny_krates_graph.specs.declared.krate.Krate.{Krate}
use Rattle.deny_spec.specs.declared.target_edge.TargetEdge.{TargetEdge}

-- the crates are in order, they, their lock text and their nodes are within bounds, and the neighbours, ids, first
-- features and declarations that are kept are those of the graph
pub record IsKept (targeted : List TargetEdge) (root : List ℕ) (krates : List Krate) (members : List ℕ)
    (edges : List Edge)
    (dependents dependencies : List (List DirectDependent)) (entries : List IdEntry) (starts : List ℕ)
    (resolved : List ResolvedAt) : Type 0 where
  pub few : length krates < 2 ^ 28
  pub names : IsSortedByKey (λ k. k.name) (slice_cmp nat_cmp) krates
  pub orderly : IsOrderly (graph_of targeted root krates members edges)
  pub dependent_rows : AreRows (graph_of targeted root krates members edges)
      (AreDirectDependents (graph_of targeted root krates members edges)) dependents
  pub dependency_rows : AreRows (graph_of targeted root krates members edges)
      (AreDirectDependencies (graph_of targeted root krates members edges)) dependencies
  pub ids : AreIds krates entries
  pub lock : lock_length (crates_from 0 krates) < 2 ^ 29
  pub nodes : node_count (crates_from 0 krates) < 2 ^ 32
  pub first_features : starts ≡ first_features_of (graph_of targeted root krates members edges)
  pub declarations : AreResolved (graph_of targeted root krates members edges) resolved
