-- Packages and their parsed texts, moved out of the lists that hold them.
use Rattle.std.specs.Prelude.{◌≡◌, ◌≢◌, ℕ, List, length, map, option_map, slice_get}
use Rattle.std.specs.Option.{option_and_then}
use Rattle.semver.specs.Identifiers.{comparator_view, parts_of}
use Rattle.semver.specs.Parse.{Held}
use Rattle.semver.specs.declared.VersionReq.{VersionReq}
use Rattle.deny_krates_graph.specs.Listed.{requirement_read, version_read}
use Rattle.deny_krates_graph.specs.declared.crates.ReadPackage.{ReadPackage}
use Rattle.deny_krates_sources.specs.Source.{source_of}
use Rattle.deny_krates_sources.specs.Versions.{rust_version_of}
use Rattle.deny_krates_metadata.specs.declared.declaration.Declaration.{Declaration}
use Rattle.deny_spec.specs.Graph as model

-- the items but the one at this index are as before
pub record IsWithout {A : Type 0} (number : ℕ) (before after : List A) : Type 0 where
  pub long : length after ≡ length before
  pub others : (n : ℕ) → n ≢ number → slice_get after n ≡ slice_get before n

abbrev pub requirement_held : VersionReq → List Held
requirement_held req = map comparator_view req.comparators.items

-- the parsed texts are those of the package
pub record IsRead (r : ReadPackage) : Type 0 where
  pub version : parts_of r.versions.version ≡ version_read r.listed.version
  pub rust_version : option_map parts_of r.versions.rust_version ≡ option_and_then rust_version_of r.listed.rust_version
  pub requirements : map requirement_held r.requirements ≡ map (λ d. requirement_read d.req) r.listed.dependencies
  pub source : r.source ≡ option_and_then source_of r.listed.source

-- the dependency of a declaration, given its parsed requirement
abbrev pub dependency_with : Declaration → List Held → model.Dependency
dependency_with d req = record {
  name = d.name;
  req = req;
  kind = d.kind;
  rename = d.rename;
  target = d.target;
  path = d.path;
  features = d.features;
  uses_default_features = d.uses_default_features;
}
