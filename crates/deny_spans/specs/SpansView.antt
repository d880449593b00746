-- Spans as contracts see them.
use Rattle.std.specs.Prelude.{◌≡◌, ℕ, ◌+◌, All, IfSome, List, [], ◌∷◌, None, Option, Some, length, map, option_map}
use Rattle.std.specs.Prelude.{slice_get}
use Rattle.std.specs.List.{AllZip}
use Rattle.std.specs.Option.{option_flatten}
use Rattle.deny_krates.specs.Crates.{crate_view}
use Rattle.deny_krates_lock.specs.Text.{IsLineOf, lock_span_at, lock_text}
use Rattle.deny_krates_lock.specs.declared.line.LockSpan.{LockSpan}
use Rattle.deny_spans_manifest.specs.Manifest.{IsOfGraph, deps_in, dep_view as declared_view, ignored_by}
use Rattle.deny_spans_manifest.specs.declared.manifest.Manifest.{Manifest as Read}
use Rattle.deny_spec.specs.Graph.{Graph}
use Rattle.deny_spec.specs.View.{Manifest, View, WorkspaceEntry}
use Rattle.deny_spans.specs.declared.krate_spans.KrateSpans.{KrateSpans}
use Rattle.deny_spans_workspace.specs.Workspace.{dep_view, span_at, span_view}
use Rattle.deny_spans_workspace.specs.declared.workspace.WorkspaceSpan.{WorkspaceSpan}

-- a manifest as plain data
abbrev pub manifest_view : Read → Manifest
manifest_view m = record { file = m.id; deps = map declared_view (deps_in m); ignored = ignored_by m }

-- shared entries by the places of the crates that they stand for, from a place on
abbrev pub shared_from : ℕ → List (Option WorkspaceSpan) → List (Option WorkspaceEntry)
shared_from place [] = []
shared_from place (s ∷ ss) = option_map (span_view place) s ∷ shared_from (place + 1) ss

-- spans as plain data
abbrev pub spans_view : KrateSpans → View
spans_view s = record {
  manifests = map (option_map manifest_view) s.manifests;
  workspace = s.workspace_id;
  shared = shared_from 0 s.shared;
  unused = map (dep_view None) s.unused_workspace_deps;
}

abbrev pub graph_in : KrateSpans → Graph
graph_in s = s.krates.now

abbrev pub lock_spans_in : KrateSpans → List LockSpan
lock_spans_in s = s.lock_spans

abbrev pub manifests_in : KrateSpans → List (Option Read)
manifests_in s = s.manifests

abbrev pub shared_in : KrateSpans → List (Option WorkspaceSpan)
shared_in s = s.shared

-- the manifest at a place is of the crate there, and its declarations resolve to crates of the graph
pub record IsManifestAt (g : Graph) (place : ℕ) (m : Read) : Type 0 where
  pub crate : slice_get g.crates place ≡ Some (crate_view place m.krate.now)
  pub krates : All (IsOfGraph g) (deps_in m)

-- the shared entry at a place stands for the crate there
abbrev pub IsSharedAt : Graph → ℕ → WorkspaceSpan → Type 0
IsSharedAt g place s = slice_get g.crates place ≡ Some (crate_view place s.krate.now)

-- the spans of a graph: one of each for each crate, which refer to crates of the graph alone
pub record AreSpansOf (g : Graph) (s : KrateSpans) : Type 0 where
  pub graph : graph_in s ≡ g
  pub lock : lock_spans_in s ≡ map (lock_span_at g.crates) g.crates
  -- the span of each crate is its line in the lock text
  pub lines : AllZip (IsLineOf (lock_text g.crates)) g.crates (lock_spans_in s)
  pub manifests_long : length (manifests_in s) ≡ length g.crates
  pub shared_long : length (shared_in s) ≡ length g.crates
  pub manifests : (place : ℕ) → IfSome (option_flatten (slice_get (manifests_in s) place)) (IsManifestAt g place)
  pub shared : (place : ℕ) → IfSome (span_at (shared_in s) place) (IsSharedAt g place)
