-- Manifests as contracts see them.
use Rattle.std.specs.Prelude.{ℕ, ◌≡◌, All, Bool, IfSome, List, None, Some, filter, map, not, option_map, slice_get}
use Rattle.deny_base.specs.declared.edge.DepKind.{DepKind}
use Rattle.deny_krates.specs.Crates.{crate_view, dependency_view}
use Rattle.deny_krates.specs.Ids.{crate_of}
use Rattle.deny_krates.specs.krate.Krate.{Krate}
use Rattle.deny_spans_manifest.specs.Agreement.{ReportsAgreement}
use Rattle.deny_spans_manifest.specs.Declarations.{declared_in}
use Rattle.deny_spans_manifest.specs.Found.{held_spanned}
use Rattle.deny_spans_manifest.specs.Ignored.{ignored_at, is_among}
use Rattle.deny_spans_manifest.specs.declared.declarations.ManifestDep.{ManifestDep}
use Rattle.deny_spans_manifest.specs.declared.manifest.Manifest.{Manifest}
use Rattle.deny_spans_manifest.specs.declared.manifest.ManifestDeps.{ManifestDeps}
use Rattle.deny_spec.specs.Graph.{Crate, Graph}
use Rattle.deny_spec.specs.View.{Declared}
use Rattle.deny_toml.specs.Parser.{IsTreeOf}
use Rattle.deny_toml.specs.value.Value.{Value}

-- a declaration as plain data
abbrev pub dep_view : ManifestDep → Declared
dep_view m = record {
  index = m.index;
  declaration = dependency_view m.dep.now;
  child = m.place;
  key = m.key_span;
  value = m.value_span;
  version_req = option_map held_spanned m.version_req;
  workspace = m.workspace;
  rename = m.rename;
}

-- the crate that a declaration resolves to is that of its place
abbrev pub IsOfGraph : Graph → ManifestDep → Type 0
IsOfGraph g m = slice_get g.crates m.place ≡ Some (crate_view m.place m.krate.now)

-- a crate whose id is in the graph is the graph's own
abbrev pub IsOwn : Graph → Krate → Type 0
IsOwn g k = IfSome (crate_of g k.id.0) (λ c. c ≡ crate_view c.place k)

-- the declarations that a manifest has, and the kinds that it ignores
abbrev pub deps_in : Manifest → List ManifestDep
deps_in m = m.deps

abbrev pub ignored_by : Manifest → List DepKind
ignored_by m = m.ignored

-- the manifest of a crate of the graph, by the tree of its text
pub record IsManifestBy (g : Graph) (c : Crate) (tree : Value) (m : Manifest) : Type 0 where
  pub deps : (agrees : List ℕ → List ℕ → Bool) → ReportsAgreement agrees
      → map dep_view (deps_in m) ≡ declared_in agrees g c tree
  pub krates : All (IsOfGraph g) (deps_in m)
  pub ignored : ignored_by m ≡ ignored_at g c.place tree

-- the manifest of a crate with this text: the crate is in the graph, and the text has a tree
pub record IsManifestOf (g : Graph) (id text : List ℕ) (m : Manifest) : Type 0 where
  pub crate : Crate
  pub tree : Value
  pub in_graph : crate_of g id ≡ Some crate
  pub reads : IsTreeOf text tree
  pub is : IsManifestBy g crate tree m

-- the text has a tree, and no crate of the graph has the id
pub record HasNoNode (g : Graph) (id text : List ℕ) : Type 0 where
  pub tree : Value
  pub reads : IsTreeOf text tree
  pub none : crate_of g id ≡ None

-- declarations without those of ignored kinds
unfoldable pub without : List DepKind → List ManifestDep → List ManifestDep
without ignored deps = filter (λ m. not (is_among ignored m.dep.now.kind)) deps

-- the declarations that the iterator has not yielded yet
abbrev pub deps_left : ManifestDeps → List ManifestDep
deps_left it = without it.ignored.now it.left.now
