-- The crates and the graph of the specification, as views of the types in code.
use Rattle.std.specs.Prelude.{ℕ, ◌+◌, List, [], ◌∷◌, map, option_map}
use Rattle.semver.specs.Identifiers.{comparator_view, parts_of}
use Rattle.url.specs.Parts.{serialize}
use Rattle.deny_base.specs.declared.edge.Edge.{Edge}
use Rattle.deny_krates_metadata.specs.declared.package.Target.{Target}
use Rattle.deny_krates_graph.specs.declared.krate.Dependency.{Dependency}
use Rattle.deny_krates_graph.specs.declared.krate.Krate.{Krate}
use Rattle.deny_krates_sources.specs.declared.source.GitSpec.{GitSpec}
use Rattle.deny_krates_sources.specs.declared.source.GitSpec.TheVariants.{Any, Branch, Tag, Rev}
use Rattle.deny_krates_sources.specs.declared.source.Source.{Source}
use Rattle.deny_krates_sources.specs.declared.source.Source.TheVariants.{CratesIo, Registry, Sparse, Git}
use Rattle.deny_spec.specs.Graph.{Crate, Graph}
use Rattle.deny_spec.specs.Graph as model
use Rattle.deny_spec.specs.declared.target_edge.TargetEdge.{TargetEdge}

abbrev pub git_spec_view : GitSpec → model.GitSpec
git_spec_view Any = model.Any
git_spec_view Branch = model.Branch
git_spec_view Tag = model.Tag
git_spec_view Rev = model.Rev

-- the view of a source: its URL is seen as text
abbrev pub source_view : Source → model.Source
source_view (CratesIo sparse) = model.CratesIo sparse
source_view (Registry url) = model.Registry (serialize url)
source_view (Sparse url) = model.Sparse (serialize url)
source_view (Git url spec value) = model.Git (serialize url) (git_spec_view spec) value

abbrev pub target_view : Target → model.Target
target_view t = record { kind = t.kind; src_path = t.src_path }

abbrev pub dependency_view : Dependency → model.Dependency
dependency_view d = record {
  name = d.name;
  req = map comparator_view d.req.comparators.items;
  kind = d.kind;
  rename = d.rename;
  target = d.target;
  path = d.path;
  features = d.features;
  uses_default_features = d.uses_default_features;
}

-- the view of a crate, given its place
abbrev pub crate_view : ℕ → Krate → Crate
crate_view place k = record {
  place = place;
  name = k.name;
  version = parts_of k.version;
  id = k.id.0;
  source = option_map source_view k.source;
  source_text = k.source_text;
  license = k.license;
  manifest_path = k.manifest_path;
  publish = k.publish;
  rust_version = option_map parts_of k.rust_version;
  features = k.features;
  targets = map target_view k.targets;
  deps = map dependency_view k.deps;
  enabled = k.enabled;
}

-- the views of crates at consecutive places, given the place of the first
abbrev pub crates_from : ℕ → List Krate → List Crate
crates_from place [] = []
crates_from place (k ∷ ks) = crate_view place k ∷ crates_from (place + 1) ks

abbrev pub graph_of : List TargetEdge → List ℕ → List Krate → List ℕ → List Edge → Graph
graph_of targeted root krates members edges = record {
  root = root;
  crates = crates_from 0 krates;
  members = members;
  edges = edges;
  target_edges = targeted;
}
