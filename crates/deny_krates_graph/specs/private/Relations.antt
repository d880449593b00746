-- The members and edges of the crates that kept packages are, by their places.
use Rattle.std.specs.Prelude.{ℕ, List, Contains, length, map}
use Rattle.std.specs.Ordering.{nat_cmp}
use Rattle.deny_base_lists.specs.Ascending.{Lists}
use Rattle.deny_base.specs.Edge.{edge_cmp}
use Rattle.deny_spec.specs.TargetEdge.{edge_of, target_edge_cmp}
use Rattle.deny_krates_graph.specs.private.Graph.{IsInverse, edges_from, place_at}
use Rattle.deny_krates_sources.specs.declared.checked.ResolvedNode.{ResolvedNode}
use Rattle.deny_krates_graph.specs.declared.graph.KeptPackage.{KeptPackage}
use Rattle.deny_krates_graph.specs.declared.krate.Krate.{Krate}
use Rattle.deny_krates_graph.specs.declared.read.CrateGraph.{CrateGraph}
use Rattle.deny_krates_graph.specs.declared.read.Adjacency.{Adjacency}
use Rattle.deny_krates_graph.specs.declared.read.Relations.{Relations}

-- the members, the target edges and the edges are those of the nodes, by the places of their packages
pub record AreRelations (starts : List ℕ) (rows : List ResolvedNode) (kept : List KeptPackage) (r : Relations) : Type
    0 where
  pub places : List ℕ
  pub inverse : IsInverse (map (λ k. k.node) kept) (length rows) places
  pub members : Lists nat_cmp (Contains (map (place_at places) starts)) r.members
  pub target_edges : Lists target_edge_cmp (Contains (edges_from rows places 0 kept)) r.target_edges
  pub edges : Lists edge_cmp (Contains (map edge_of r.target_edges)) r.edges

-- the graph of these parts
abbrev pub whole_graph : List ℕ → List Krate → Relations → Adjacency → CrateGraph
whole_graph root krates r n = record {
  root = root;
  krates = krates;
  members = r.members;
  edges = r.edges;
  target_edges = r.target_edges;
  dependents = n.dependents;
  dependencies = n.dependencies;
  ids = n.ids;
}
