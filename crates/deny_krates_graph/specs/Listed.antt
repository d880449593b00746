-- The crate of a package that the metadata lists. In metadata without a fault each text parses.
use Rattle.std.specs.Prelude.{◌≡◌, ℕ, ◌+◌, List, [], ◌∷◌, Contains, fold, map, option_map, unwrap_or}
use Rattle.std.specs.Cmp.Lexicographic.{slice_cmp}
use Rattle.std.specs.FinMap as finite
use Rattle.std.specs.Option.{option_and_then}
use Rattle.std.specs.Ordering.{nat_cmp}
use Rattle.std.specs.Result.{result_ok}
use Rattle.semver.specs.Parse.{Held, Parts, req_of, version_parts}
use Rattle.deny_base_lists.specs.Ascending.{Lists}
use Rattle.deny_base_lists.specs.TextMap.{TextFinMap}
use Rattle.deny_krates_graph.specs.Crates.{source_view, target_view}
use Rattle.deny_krates_sources.specs.Source.{source_of}
use Rattle.deny_krates_sources.specs.Versions.{rust_version_of}
use Rattle.deny_krates_metadata.specs.declared.declaration.Declaration.{Declaration}
use Rattle.deny_krates_metadata.specs.declared.document.Document.{Document}
use Rattle.deny_krates_metadata.specs.declared.feature.Feature.{Feature}
use Rattle.deny_krates_metadata.specs.declared.node.MetadataNode.{MetadataNode}
use Rattle.deny_krates_metadata.specs.declared.package.MetadataPackage.{MetadataPackage}
use Rattle.deny_spec.specs.Graph.{Crate}
use Rattle.deny_spec.specs.Graph as model

abbrev pub version_read : List ℕ → Parts
version_read text = unwrap_or (result_ok (version_parts text)) (0, 0, 0, [], [])

abbrev pub requirement_read : List ℕ → List Held
requirement_read text = unwrap_or (result_ok (req_of text)) []

abbrev pub dependency_at : Declaration → model.Dependency
dependency_at d = record {
  name = d.name;
  req = requirement_read d.req;
  kind = d.kind;
  rename = d.rename;
  target = d.target;
  path = d.path;
  features = d.features;
  uses_default_features = d.uses_default_features;
}

-- a table of features with one feature more
abbrev pub with_feature : TextFinMap (List (List ℕ)) → Feature → TextFinMap (List (List ℕ))
with_feature features f = finite.insert features f.name f.enables

abbrev pub features_of : List Feature → TextFinMap (List (List ℕ))
features_of features = fold with_feature finite.empty features

-- the crate of a package, given its place and its enabled features
abbrev pub crate_at : ℕ → MetadataPackage → List (List ℕ) → Crate
crate_at place p enabled = record {
  place = place;
  name = p.name;
  version = version_read p.version;
  id = p.id;
  source = option_map source_view (option_and_then source_of p.source);
  source_text = p.source;
  license = p.license;
  manifest_path = p.manifest_path;
  publish = p.publish;
  rust_version = option_and_then rust_version_of p.rust_version;
  features = features_of p.features;
  targets = map target_view p.targets;
  deps = map dependency_at p.dependencies;
  enabled = enabled;
}

-- a node of the id enables the feature
pub record IsEnabled (doc : Document) (id feature : List ℕ) : Type 0 where
  pub node : MetadataNode
  pub holds : Contains doc.nodes node
  pub owner : node.id ≡ id
  pub named : Contains node.features feature

-- the crate at a place is that of a package, with the features that its node enables, ascending
pub record IsCrateAt (doc : Document) (place : ℕ) (p : MetadataPackage) (c : Crate) : Type 0 where
  pub is : c ≡ crate_at place p c.enabled
  pub enabled : Lists (slice_cmp nat_cmp) (IsEnabled doc p.id) c.enabled

-- the crates are those of the packages, at consecutive places, given the place of the first
abbrev pub AreCratesAt : Document → ℕ → List MetadataPackage → List Crate → Type 0
AreCratesAt doc place [] [] = Unit {0}
AreCratesAt doc place [] (c ∷ cs) = ⊥
AreCratesAt doc place (p ∷ ps) [] = ⊥
AreCratesAt doc place (p ∷ ps) (c ∷ cs) = IsCrateAt doc place p c × AreCratesAt doc (place + 1) ps cs
