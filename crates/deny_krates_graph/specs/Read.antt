-- The graph of metadata.
use Rattle.std.specs.Prelude.{◌≡◌, ◌<◌, ◌^◌, ℕ, List, Some, Ok, Contains, length, map, slice_get}
use Rattle.std.specs.Cmp.Lexicographic.{slice_cmp}
use Rattle.std.specs.List.Sorted.{IsSortedByKey}
use Rattle.std.specs.Ordering.{nat_cmp}
use Rattle.deny_base_lists.specs.Ascending.{Lists}
use Rattle.deny_base.specs.Edge.{edge_cmp}
use Rattle.deny_base.specs.declared.edge.DepKind.{DepKind}
use Rattle.deny_base.specs.declared.edge.Edge.{Edge}
use Rattle.deny_spec.specs.Graph.{Graph}
use Rattle.deny_spec.specs.TargetEdge.{target_edge_cmp}
use Rattle.deny_spec.specs.declared.target_edge.TargetEdge.{TargetEdge}
use Rattle.deny_krates_sources.specs.Checked.{Resolved, checked}
use Rattle.deny_krates_graph.specs.Bounds.{lock_length, node_count}
use Rattle.deny_krates_graph.specs.Crates.{crates_from, graph_of}
use Rattle.deny_krates_graph.specs.Dependents.{AreDirectDependencies, AreDirectDependents, AreRows}
use Rattle.deny_krates_graph.specs.IdEntries.{AreIds}
use Rattle.deny_krates_graph.specs.Listed.{AreCratesAt}
use Rattle.deny_krates_graph.specs.Orderly.{IsOrderly}
use Rattle.deny_krates_graph.specs.Packages.{package_cmp}
use Rattle.deny_krates_graph.specs.declared.read.CrateGraph.{CrateGraph}
use Rattle.deny_krates_metadata.specs.declared.document.Document.{Document}
use Rattle.deny_krates_metadata.specs.declared.node.NeededAs.{NeededAs}
use Rattle.deny_krates_metadata.specs.declared.node.NodeDependency.{NodeDependency}
use Rattle.deny_krates_metadata.specs.declared.node.MetadataNode.{MetadataNode}
use Rattle.deny_krates_metadata.specs.declared.package.MetadataPackage.{MetadataPackage}

-- a node of an id has a dependency of this kind on the package of another id
pub record Needs (doc : Document) (id : List ℕ) (kind : DepKind) (needed : List ℕ) : Type 0 where
  pub node : MetadataNode
  pub need : NodeDependency
  pub holds : Contains doc.nodes node
  pub owner : node.id ≡ id
  pub named : Contains node.deps need
  pub is : need.pkg ≡ needed
  pub of : Contains (map (λ needed_as. needed_as.kind) need.kinds) kind

-- a node of an id has a dependency of this kind and for this target on the package of another id
pub record NeedsFor (doc : Document) (id : List ℕ) (needed_as : NeededAs) (needed : List ℕ) : Type 0 where
  pub node : MetadataNode
  pub need : NodeDependency
  pub holds : Contains doc.nodes node
  pub owner : node.id ≡ id
  pub named : Contains node.deps need
  pub is : need.pkg ≡ needed
  pub of : Contains need.kinds needed_as

-- a chain of dependencies of any kind leads from a member
pub data IsReached (doc : Document) : List ℕ → Type 0 where
  is_member : (id : List ℕ) → Contains doc.members id → IsReached doc id
  by_need : (id : List ℕ) (kind : DepKind) (needed : List ℕ) → IsReached doc id → Needs doc id kind needed
      → IsReached doc needed

-- a package that is a crate of the graph
pub record IsCrate (doc : Document) (p : MetadataPackage) : Type 0 where
  pub holds : Contains doc.packages p
  pub reached : IsReached doc p.id

-- the crate at this place is a member
pub record IsMember (doc : Document) (crates : List MetadataPackage) (place : ℕ) : Type 0 where
  pub of : MetadataPackage
  pub holds : slice_get crates place ≡ Some of
  pub listed : Contains doc.members of.id

-- the crate at one place needs the crate at another
pub record IsEdge (doc : Document) (crates : List MetadataPackage) (e : Edge) : Type 0 where
  pub parent : MetadataPackage
  pub child : MetadataPackage
  pub parent_holds : slice_get crates e.parent ≡ Some parent
  pub child_holds : slice_get crates e.child ≡ Some child
  pub needs : Needs doc parent.id e.kind child.id

-- the crate at one place needs the crate at another for a target
pub record IsTargetEdge (doc : Document) (crates : List MetadataPackage) (e : TargetEdge) : Type 0 where
  pub parent : MetadataPackage
  pub child : MetadataPackage
  pub parent_holds : slice_get crates e.parent ≡ Some parent
  pub child_holds : slice_get crates e.child ≡ Some child
  pub needs : NeedsFor doc parent.id (record { kind = e.kind; target = e.target }) child.id

-- the crates are the packages that a member reaches, in order; members ascend by place, edges by
-- parent, child and kind, and target edges by their target too, each once
pub record IsGraph (doc : Document) (g : Graph) : Type 0 where
  pub packages : List MetadataPackage
  pub kept : Lists package_cmp (IsCrate doc) packages
  pub root : g.root ≡ doc.workspace_root
  pub crates : AreCratesAt doc 0 packages g.crates
  pub members : Lists nat_cmp (IsMember doc packages) g.members
  pub edges : Lists edge_cmp (IsEdge doc packages) g.edges
  pub target_edges : Lists target_edge_cmp (IsTargetEdge doc packages) g.target_edges

-- the bytes are metadata without a fault, and this is its graph
pub record IsGraphOf (bytes : List ℕ) (g : Graph) : Type 0 where
  pub read : Resolved
  pub is_read : checked bytes ≡ Ok read
  pub graph : IsGraph read.document g

-- the graph that a graph in code is: its root, crates, members, edges and target edges
abbrev pub graph_read : CrateGraph → Graph
graph_read r = graph_of r.target_edges r.root r.krates r.members r.edges

-- the crates of a graph in code are few and in order of their names, the graph is orderly, its rows of neighbours
-- and its ids are those of the graph, and its lock text and its nodes are within bounds
pub record IsSound (r : CrateGraph) : Type 0 where
  pub few : length r.krates < 2 ^ 28
  pub names : IsSortedByKey (λ k. k.name) (slice_cmp nat_cmp) r.krates
  pub orderly : IsOrderly (graph_read r)
  pub dependent_rows : AreRows (graph_read r) (AreDirectDependents (graph_read r)) r.dependents
  pub dependency_rows : AreRows (graph_read r) (AreDirectDependencies (graph_read r)) r.dependencies
  pub ids : AreIds r.krates r.ids
  pub lock : lock_length (crates_from 0 r.krates) < 2 ^ 29
  pub nodes : node_count (crates_from 0 r.krates) < 2 ^ 32
