-- How the graph is built from the numbers of resolved metadata.
use Rattle.std.specs.Prelude.{◌≡◌, ◌+◌, ◌++◌, ◌∷◌, ℕ, List, [], Bool, true, Some, None, Contains, length, map}
use Rattle.std.specs.Prelude.{slice_get, slice_index_or}
use Rattle.std.specs.Cmp.Lexicographic.{slice_cmp}
use Rattle.std.specs.Option.{option_map_or}
use Rattle.std.specs.Ordering.{nat_cmp, on, then_cmp}
use Rattle.std.specs.declared.cmp.Ordering.{Ordering}
use Rattle.deny_base_lists.specs.Ascending.{Lists}
use Rattle.deny_krates_graph.specs.Crates.{crate_view}
use Rattle.deny_krates_graph.specs.Listed.{crate_at}
use Rattle.deny_krates_graph.specs.Packages.{rank_cmp, rank_of}
use Rattle.deny_krates_graph.specs.Filtered.{is_marked}
use Rattle.deny_krates_graph.specs.private.Reach.{links_at}
use Rattle.deny_krates_sources.specs.declared.checked.Link.{Link}
use Rattle.deny_krates_sources.specs.declared.checked.ResolvedNode.{ResolvedNode}
use Rattle.deny_krates_metadata.specs.declared.node.MetadataNode.{MetadataNode}
use Rattle.deny_krates_metadata.specs.declared.package.MetadataPackage.{MetadataPackage}
use Rattle.deny_krates_graph.specs.declared.graph.KeptPackage.{KeptPackage}
use Rattle.deny_krates_graph.specs.declared.krate.Krate.{Krate}
use Rattle.deny_spec.specs.declared.target_edge.TargetEdge.{TargetEdge}

abbrev pub kept_cmp : KeptPackage → KeptPackage → Ordering
kept_cmp = then_cmp (on (λ k. k.rank) rank_cmp) (then_cmp (on (λ k. k.owner) nat_cmp) (on (λ k. k.node) nat_cmp))

abbrev pub no_package : MetadataPackage
no_package = record {
  name = [];
  version = [];
  id = [];
  manifest_path = [];
  source = None;
  license = None;
  rust_version = None;
  publish = None;
  features = [];
  targets = [];
  dependencies = [];
}

-- the package of a kept package, by its number
unfoldable pub listed : List MetadataPackage → KeptPackage → MetadataPackage
listed packages k = slice_index_or packages k.owner no_package

-- a kept package is that of a marked node
pub record IsKeptNode (packages : List MetadataPackage) (rows : List ResolvedNode) (marks : List Bool)
    (k : KeptPackage) : Type 0 where
  pub row : ResolvedNode
  pub at : slice_get rows k.node ≡ Some row
  pub marked : is_marked marks k.node ≡ true
  pub owner : k.owner ≡ row.owner
  pub holds : slice_get packages row.owner ≡ Some (listed packages k)
  pub ranked : k.rank ≡ rank_of (listed packages k)

-- for each number in a list its index there
pub record IsInverse (numbers : List ℕ) (size : ℕ) (places : List ℕ) : Type 0 where
  pub long : length places ≡ size
  pub at : (place n : ℕ) → slice_get numbers place ≡ Some n → slice_index_or places n 0 ≡ place

abbrev pub place_at : List ℕ → ℕ → ℕ
place_at places n = slice_index_or places n 0

abbrev pub edge_to : List ℕ → ℕ → Link → TargetEdge
edge_to places parent l = record {
  parent = parent;
  child = place_at places l.node;
  kind = l.needed_as.kind;
  target = l.needed_as.target;
}

-- the target edges from kept packages at consecutive places, given the place of the first
abbrev pub edges_from : List ResolvedNode → List ℕ → ℕ → List KeptPackage → List TargetEdge
edges_from rows places parent [] = []
edges_from rows places parent (k ∷ ks) =
    map (edge_to places parent) (links_at rows k.node) ++ edges_from rows places (parent + 1) ks

-- the features that a node enables
abbrev pub features_at : List MetadataNode → ℕ → List (List ℕ)
features_at nodes node = option_map_or (λ n. n.features) (slice_get nodes node) []

-- a crate is that of a package, with these features enabled
pub record IsKrateAs (p : MetadataPackage) (features : List (List ℕ)) (krate : Krate) : Type 0 where
  pub is : crate_view 0 krate ≡ crate_at 0 p krate.enabled
  pub enabled : Lists (slice_cmp nat_cmp) (Contains features) krate.enabled

abbrev pub IsKrateOf : List MetadataPackage → List MetadataNode → KeptPackage → Krate → Type 0
IsKrateOf packages nodes k krate = IsKrateAs (listed packages k) (features_at nodes k.node) krate
