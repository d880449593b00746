-- What holds for every graph that is read.
use Rattle.std.specs.Prelude.{◌≢◌, ◌<◌, length, map, All, AllPairs, Contains}
use Rattle.std.specs.Cmp.Lexicographic.{slice_cmp}
use Rattle.std.specs.List.Sorted.{IsSortedByKey, IsStrictlySortedBy}
use Rattle.std.specs.Ordering.{nat_cmp, on}
use Rattle.std.specs.declared.cmp.Ordering.{Ordering}
use Rattle.semver.specs.Identifiers.{parts_text}
use Rattle.deny_base_lists.specs.Ascending.{Lists}
use Rattle.deny_base.specs.Edge.{edge_cmp}
use Rattle.deny_krates_graph.specs.Packages.{rank_cmp}
use Rattle.deny_krates_graph.specs.declared.graph.Rank.{Rank}
use Rattle.deny_spec.specs.Graph.{Crate, Graph}
use Rattle.deny_spec.specs.TargetEdge.{edge_of, target_edge_cmp}

-- the key by which a crate is ordered: name, version text, source text and id
abbrev pub crate_rank : Crate → Rank
crate_rank c = record { name = c.name; version = parts_text c.version; source = c.source_text; id = c.id }

abbrev pub crate_cmp : Crate → Crate → Ordering
crate_cmp = on crate_rank rank_cmp

-- crates, members, edges, target edges and each crate's enabled features ascend, each once; no two
-- crates have one id, members and edges name places, and edges are the target edges' own
pub record IsOrderly (g : Graph) : Type 0 where
  pub crates : IsStrictlySortedBy crate_cmp g.crates
  pub names : IsSortedByKey (λ c. c.name) (slice_cmp nat_cmp) g.crates
  pub ids : AllPairs (λ c d. c.id ≢ d.id) g.crates
  pub enabled : All (λ c. IsStrictlySortedBy (slice_cmp nat_cmp) c.enabled) g.crates
  pub members : All (λ place. place < length g.crates) g.members
  pub members_ascend : IsStrictlySortedBy nat_cmp g.members
  pub parents : All (λ e. e.parent < length g.crates) g.edges
  pub children : All (λ e. e.child < length g.crates) g.edges
  pub edges_ascend : IsStrictlySortedBy edge_cmp g.edges
  pub target_edges_ascend : IsStrictlySortedBy target_edge_cmp g.target_edges
  pub edges_are : Lists edge_cmp (Contains (map edge_of g.target_edges)) g.edges
