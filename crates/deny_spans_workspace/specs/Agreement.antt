-- Which crate an entry resolves to.
use Rattle.std.specs.Prelude.{ℕ, ◌&&◌, Bool, true, false, List, Option, None, find, is_none, option_map, if◌then◌else◌}
use Rattle.std.specs.Cmp.Lexicographic.{pointwise}
use Rattle.std.specs.Option.{option_map_or}
use Rattle.std.specs.Path.{path_components}
use Rattle.semver.specs.Parse.{Held}
use Rattle.deny_base.specs.declared.span.Spanned.{Spanned}
use Rattle.deny_krates.specs.Crates.{source_view}
use Rattle.deny_krates.specs.source.Source.{Source}
use Rattle.deny_spec.specs.Crates.{folder, is_crates_io}
use Rattle.deny_spec.specs.Graph.{Crate, Graph}
use Rattle.deny_spec.specs.Graph as model
use Rattle.deny_spec.specs.Groups.{has_name}
use Rattle.deny_spec.specs.Match.{meets}
use Rattle.deny_spec.specs.Text.{same_text}
use Rattle.deny_spans_workspace.specs.Entries.{SharedEntry}
use Rattle.deny_spans_workspace.specs.ManifestKey.{name_of}
use Rattle.deny_spans_workspace.specs.Paths.{folder_named}
use Rattle.deny_spans_workspace.specs.Registries.{is_same_source, source_of_registry}
use Rattle.deny_spans_workspace.specs.Repositories.{is_repository}
use Rattle.deny_spans_workspace.specs.DepSpec.{DepSpec}
use Rattle.deny_spans_workspace.specs.declared.manifest_key.ManifestKey.TheVariants as key
use Rattle.deny_spans_workspace.specs.declared.origin.Origin.{Origin}
use Rattle.deny_spans_workspace.specs.declared.origin.Origin.TheVariants as origin
use Rattle.deny_spans_workspace.specs.declared.registries.Registry.{Registry}
use Rattle.deny_spans_workspace.specs.declared.agreement.Home.{Home}
use Rattle.deny_spans_workspace.specs.declared.agreement.Home.TheVariants.{CratesIo, Folder, Repository, Registered}

-- where the crates of a named registry come from; `crates-io` is a name too
abbrev pub home_by_name : List Registry → List ℕ → Home
home_by_name registries name =
    if same_text name (name_of key.CratesIo) then CratesIo else Registered (source_of_registry registries name)

-- where the crate of an entry has to come from, by the workspace's root and the known registries
unfoldable pub home_of : List ℕ → List Registry → Origin → Home
home_of root registries (origin.Registry name) = option_map_or (home_by_name registries) name CratesIo
home_of root registries (origin.Path path) = Folder (folder_named root path)
home_of root registries (origin.Git url reference) = Repository url reference

-- a registry whose source is not known is the source of no crate
abbrev pub is_registered : Option Source → Option model.Source → Bool
is_registered known source =
    option_map_or (λ s. option_map_or (is_same_source (source_view s)) source false) known false

abbrev pub is_folder : List (List ℕ) → Crate → Bool
is_folder parts c = is_none c.source && pointwise same_text (path_components (folder c)) parts

-- whether a crate comes from a home
unfoldable pub comes_from : Home → Crate → Bool
comes_from CratesIo c = is_crates_io c
comes_from (Registered source) c = is_registered source c.source
comes_from (Folder parts) c = is_folder parts c
comes_from (Repository url reference) c = option_map_or (is_repository url reference) c.source false

abbrev pub is_of_registry : Origin → Bool
is_of_registry (origin.Registry name) = true
is_of_registry (origin.Path path) = false
is_of_registry (origin.Git url reference) = false

abbrev pub counting : Bool → Option (Spanned (List Held)) → Option (List Held)
counting true version = option_map (λ v. v.value) version
counting false version = None

-- the requirement of an entry, which counts for crates of registries alone
abbrev pub requirement_of : DepSpec → Option (List Held)
requirement_of spec = counting (is_of_registry spec.origin) spec.version

-- whether a crate comes from a home and its version meets a requirement
unfoldable pub fits : Home → Option (List Held) → Crate → Bool
fits home requirement c = comes_from home c && meets requirement c.version

-- whether a crate is what an entry specifies, apart from its name
abbrev pub agrees : List ℕ → List Registry → DepSpec → Crate → Bool
agrees root registries spec = fits (home_of root registries spec.origin) (requirement_of spec)

-- the package that an entry names, or else its key
abbrev pub package_of : SharedEntry → List ℕ
package_of e = option_map_or (λ rename. rename.value) e.spec.rename e.name

-- the place of the first crate with the entry's package name that agrees
unfoldable pub place_of : Graph → List Registry → SharedEntry → Option ℕ
place_of g registries e = option_map (λ c. c.place)
    (find (λ c. agrees g.root registries e.spec c && has_name (package_of e) c) g.crates)
