-- Worked cases of what the entries of a workspace resolve to.
use Rattle.std.proofs.Common.{◌≡◌, ◌+◌, List, ℕ, [], ◌∷◌, Option, Some, None, codes, refl, rules}
use Rattle.std.specs.Prelude.{option_and_then}
use Rattle.std.specs.Path.{path_components, path_names}
use Rattle.semver.specs.Parse.{Held}
use Rattle.semver.proofs.OnLiterals.{semver_on_literals}
use Rattle.url.proofs.OnLiterals.{url_on_literals}
use Rattle.deny_base.specs.declared.span.Spanned.{Spanned}
use Rattle.deny_spans_manifest.specs.Found.{rename_of, requirement_in, version_of, versioned}
use Rattle.deny_spans_manifest.proofs.Cases.{entry, span, table, text}
use Rattle.deny_krates.specs.source.GitSpec.TheVariants as spec
use Rattle.deny_spec.specs.Crates.{folder_of}
use Rattle.deny_spec.specs.View.{WorkspaceEntry}
use Rattle.deny_spec.specs.Graph.{Graph}
use Rattle.deny_spec.specs.Groups.{has_name}
use Rattle.deny_toml.specs.value.Content.{the_lemmas}
use Rattle.deny_spans_workspace.proofs.Cases.{at, from_major, graph, manifest, of_branch, of_crates_io, of_folder}
use Rattle.deny_spans_workspace.specs.Agreement.{comes_from, fits, home_of, place_of}
use Rattle.deny_spans_workspace.specs.Entries.{entries_of, patch_of, patched_entry}
use Rattle.deny_spans_workspace.specs.ManifestKey.{name_of}
use Rattle.deny_spans_workspace.specs.Origin.{address_of, origin_in}
use Rattle.deny_spans_workspace.specs.Paths.{above, further, joined, resolved}
use Rattle.deny_spans_workspace.specs.Registries.{source_of_registry}
use Rattle.deny_spans_workspace.specs.Repositories.{is_repository, is_same_address, refers_alike, without_suffixes}
use Rattle.deny_spans_workspace.specs.DepSpec.{dep_spec_in}
use Rattle.deny_spans_workspace.specs.Workspace.{entries_in, span_of, unused_in}
use Rattle.deny_spans_workspace.specs.declared.origin.Origin.{Origin}
use Rattle.deny_spans_workspace.specs.declared.origin.Origin.TheVariants.{Git, Path, Registry}

-- two folders, two versions of `x`, and a branch of it
abbrev crates : Graph
crates = graph (of_folder 0 (codes "a") (codes "/w/a/Cargo.toml") ∷ of_folder 1 (codes "b") (codes "/b/Cargo.toml")
    ∷ of_crates_io 2 (codes "x") 1 ∷ of_crates_io 3 (codes "x") 2 ∷ of_branch 4 (codes "x") (codes "master") ∷ [])

abbrev no_version : Option (Spanned (List Held))
no_version = None

-- the place that an entry with this name, origin and requirement resolves to
abbrev led : List ℕ → Origin → Option (Spanned (List Held)) → Option ℕ
led name origin version = place_of crates [] (record {
  name = name;
  key = span 10;
  value = span 11;
  spec = record { origin = origin; version = version; rename = None };
  patched = None;
})

-- ---- folders

below : led (codes "a") (Path (codes "a")) no_version ≡ Some 0
unfolding place_of fits comes_from home_of has_name folder_of joined resolved further above path_components path_names
below = refl

beside : led (codes "b") (Path (codes "./../b//")) no_version ≡ Some 1
unfolding place_of fits comes_from home_of has_name folder_of joined resolved further above path_components path_names
beside = refl

not_joined : led (codes "b") (Path (codes "b")) no_version ≡ None
unfolding place_of fits comes_from home_of has_name folder_of joined resolved further above path_components path_names
not_joined = refl

-- a folder of another name has no such crate, and the requirement does not count
other_name : led (codes "c") (Path (codes "a")) no_version ≡ None
unfolding place_of fits comes_from home_of has_name folder_of joined resolved further above path_components path_names
other_name = refl

whatever_version : led (codes "a") (Path (codes "a")) (at 12 (from_major 7)) ≡ Some 0
unfolding place_of fits comes_from home_of has_name folder_of joined resolved further above path_components path_names
whatever_version = refl

-- ---- registries

first_of_crates_io : led (codes "x") (Registry None) no_version ≡ Some 2
unfolding place_of fits comes_from home_of has_name
first_of_crates_io = refl

by_version : led (codes "x") (Registry None) (at 12 (from_major 2)) ≡ Some 3
unfolding place_of fits comes_from home_of has_name
by_version = refl

no_such_version : led (codes "x") (Registry None) (at 12 (from_major 3)) ≡ None
unfolding place_of fits comes_from home_of has_name
no_such_version = refl

by_the_name : led (codes "x") (Registry (Some (codes "crates-io"))) (at 12 (from_major 2)) ≡ Some 3
unfolding place_of fits comes_from home_of has_name name_of
by_the_name = refl

not_handed_in : led (codes "x") (Registry (Some (codes "r"))) no_version ≡ None
unfolding place_of fits comes_from home_of has_name name_of source_of_registry
not_handed_in = refl

-- ---- repositories

of_master : option_and_then (λ url. led (codes "x") (Git url (record { spec = spec.Any; value = None })) no_version)
    (address_of (codes "https://h.org/x.git")) ≡ Some 4
unfolding place_of fits comes_from home_of has_name url_on_literals is_repository is_same_address refers_alike
    without_suffixes
of_master = refl

-- ---- entries

abbrev reported : ℕ → Option ℕ → WorkspaceEntry
reported start place = record {
  key = span start;
  value = span (start + 1);
  version = None;
  rename = None;
  patched = None;
  place = place;
}

abbrev some_entries : List WorkspaceEntry
some_entries = reported 10 (Some 2) ∷ reported 20 None ∷ reported 30 (Some 2) ∷ reported 40 (Some 1) ∷ reported 50 None
    ∷ []

the_last : span_of some_entries 2 ≡ Some (reported 30 (Some 2))
unfolding span_of
the_last = refl

none_of_them : span_of some_entries 0 ≡ None
unfolding span_of
none_of_them = refl

-- the first of two that resolve to one crate is not unused
unused : unused_in some_entries ≡ reported 20 None ∷ reported 50 None ∷ []
unused = refl

-- a = { path = "a" }, x = "1" with a patch x = { package = "a", path = "./a" }, z = "1"
whole : entries_in crates [] (manifest
    (entry 10 (codes "a") (table 11 (entry 12 (codes "path") (text 13 (codes "a")) ∷ []))
    ∷ entry 20 (codes "x") (text 21 (codes "1")) ∷ entry 30 (codes "z") (text 31 (codes "1")) ∷ [])
    (entry 40 (codes "x") (table 41 (entry 42 (codes "package") (text 43 (codes "a"))
    ∷ entry 44 (codes "path") (text 45 (codes "./a")) ∷ [])) ∷ []))
    ≡ reported 10 (Some 0)
    ∷ (record (reported 40 (Some 0)) { value = span 21; rename = at 43 (codes "a"); patched = Some (span 20) })
    ∷ (record (reported 30 None) { version = at 31 (from_major 1) }) ∷ []
unfolding entries_in entries_of patched_entry patch_of dep_spec_in origin_in name_of version_of versioned requirement_in
    rename_of semver_on_literals place_of fits comes_from home_of has_name folder_of joined resolved further above
    path_components path_names
whole = search (rules, the_lemmas)
