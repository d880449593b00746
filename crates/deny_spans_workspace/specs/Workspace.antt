-- What the entries of a workspace's dependencies resolve to, by the tree of its manifest.
use Rattle.std.specs.Prelude.{◌≡◌, ℕ, ◌==◌, Bool, false, IfSome, List, Option, Some, filter, find, is_none, length, map}
use Rattle.std.specs.Prelude.{option_map, reverse, slice_get}
use Rattle.std.specs.Option.{option_flatten, option_map_or}
use Rattle.deny_krates.specs.Crates.{crate_view}
use Rattle.deny_spec.specs.Graph.{Graph}
use Rattle.deny_spec.specs.View.{WorkspaceEntry}
use Rattle.deny_toml.specs.value.Value.{Value}
use Rattle.deny_spans_workspace.specs.Agreement.{place_of}
use Rattle.deny_spans_workspace.specs.Entries.{SharedEntry, dependencies_in, entries_of, patches_in}
use Rattle.deny_spans_manifest.specs.Found.{held_spanned}
use Rattle.deny_spans_workspace.specs.declared.registries.Registry.{Registry}
use Rattle.deny_spans_workspace.specs.declared.workspace.UnusedWorkspaceDep.{UnusedWorkspaceDep}
use Rattle.deny_spans_workspace.specs.declared.workspace.WorkspaceSpan.{WorkspaceSpan}

abbrev pub resolved_entry : Graph → List Registry → SharedEntry → WorkspaceEntry
resolved_entry g registries e = record {
  key = e.key;
  value = e.value;
  version = e.spec.version;
  rename = e.spec.rename;
  patched = e.patched;
  place = place_of g registries e;
}

-- the entries that are not passed over, in byte order of their keys
unfoldable pub entries_in : Graph → List Registry → Value → List WorkspaceEntry
entries_in g registries tree = map (resolved_entry g registries) (entries_of (patches_in tree) (dependencies_in tree))

abbrev pub resolves_to : ℕ → WorkspaceEntry → Bool
resolves_to place e = option_map_or (λ p. p == place) e.place false

-- the last entry that resolves to the crate at a place
unfoldable pub span_of : List WorkspaceEntry → ℕ → Option WorkspaceEntry
span_of entries place = find (resolves_to place) (reverse entries)

-- the entries that resolve to no crate
abbrev pub unused_in : List WorkspaceEntry → List WorkspaceEntry
unused_in entries = filter (λ e. is_none e.place) entries

-- an entry as plain data, with the place of its crate
abbrev pub dep_view : Option ℕ → UnusedWorkspaceDep → WorkspaceEntry
dep_view place d = record {
  key = d.key;
  value = d.value;
  version = option_map held_spanned d.version;
  rename = d.rename;
  patched = d.patched;
  place = place;
}

abbrev pub span_view : ℕ → WorkspaceSpan → WorkspaceEntry
span_view place s = record {
  key = s.key;
  value = s.value;
  version = option_map held_spanned s.version;
  rename = s.rename;
  patched = s.patched;
  place = Some place;
}

-- the span at the place of a crate
abbrev pub span_at : List (Option WorkspaceSpan) → ℕ → Option WorkspaceSpan
span_at spans place = option_flatten (slice_get spans place)

-- Spans by the places of crates: at each the last entry that resolves to its crate, with this crate.
pub record AreSpans (g : Graph) (entries : List WorkspaceEntry) (spans : List (Option WorkspaceSpan)) : Type 0 where
  pub long : length spans ≡ length g.crates
  pub at : (place : ℕ) → option_map (span_view place) (span_at spans place) ≡ span_of entries place
  pub krates : (place : ℕ) → IfSome (span_at spans place)
      (λ s. slice_get g.crates place ≡ Some (crate_view place s.krate.now))
