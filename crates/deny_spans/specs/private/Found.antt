-- What was found in manifests, before it is put in order.
use Rattle.std.specs.Prelude.{◌≡◌, ℕ, ◌++◌, Bool, Contains, IfSome, List, None, Option, Some, is_some, length, map}
use Rattle.std.specs.Prelude.{option_map, slice_get, ◌||◌}
use Rattle.std.specs.Cmp.Lexicographic.{slice_cmp}
use Rattle.std.specs.List.{flat_map}
use Rattle.std.specs.Option.{option_flatten}
use Rattle.std.specs.Ordering.{nat_cmp}
use Rattle.deny_base_lists.specs.Ascending.{Lists}
use Rattle.deny_base_disk.specs.Disk.{Files}
use Rattle.deny_base.specs.declared.files.File.{File}
use Rattle.deny_spans_manifest.specs.Agreement.{ReportsAgreement}
use Rattle.deny_krates.specs.Ids.{crate_of}
use Rattle.deny_spec.specs.Graph.{Crate, Graph}
use Rattle.deny_spans.specs.ManifestScan.{ManifestScan, Reading, kept_as, kept_of, workspace_scan, workspace_reading}
use Rattle.deny_spans.specs.Paths.{workspace_path}
use Rattle.deny_spans.specs.Seen.{AreManifestScans, manifest_in}
use Rattle.deny_spans.specs.SpansView.{IsManifestAt, graph_in, lock_spans_in, manifest_view, manifests_in, shared_in}
use Rattle.deny_spans.specs.declared.krate_spans.FoundManifests.{FoundManifests}
use Rattle.deny_spans.specs.declared.krate_spans.KrateSpans.{KrateSpans}
use Rattle.deny_spans.specs.declared.krate_spans.Lock.{Lock}
use Rattle.deny_spans.specs.private.Gathered.{broken_if, broken_of, is_broken, missing_of}
use Rattle.deny_spans.specs.private.Workspace.{AreShared, AreSharedIf, IsWorkspaceBy}
use Rattle.deny_toml.specs.value.Value.{Value}
use Rattle.deny_base.specs.Unread.{asked, if_unread, unread_cmp}
use Rattle.deny_base.specs.declared.purpose.Purpose.TheVariants as purpose
use Rattle.deny_base.specs.declared.unread.Unread.{Unread}
use Rattle.deny_spans_workspace.specs.declared.registries.Registry.{Registry}
use Rattle.deny_spans_workspace.specs.declared.workspace.WorkspaceDeps.{WorkspaceDeps}

-- the crate with an id is at a place of the graph
pub record OccursAt (g : Graph) (id : List ℕ) (place : ℕ) : Type 0 where
  pub crate : Crate
  pub found : crate_of g id ≡ Some crate
  pub at : slice_get g.crates place ≡ Some crate
  pub is : crate.place ≡ place

-- the entry for the workspace's manifest, where it is no crate's and was not read
abbrev pub missing_alone : Graph → List ManifestScan → Option Reading → List Unread
missing_alone g scans alone =
    if_unread (asked None purpose.Manifest (workspace_path g.root)) (is_some (workspace_scan g scans) || is_some alone)

abbrev pub broken_alone : Graph → Option Reading → List (List ℕ)
broken_alone g alone = broken_if (workspace_path g.root) (is_broken alone)

-- the found manifests are those of the scans
pub record IsFound (told : Option Files) (g : Graph) (registries : List Registry) (old new : List File)
    (f : FoundManifests) : Type 0 where
  pub scans : List ManifestScan
  pub alone : Option Reading
  pub are : AreManifestScans told g (length old) scans alone
  pub files : new ≡ old ++ (flat_map kept_of scans ++ kept_as (workspace_path g.root) alone)
  pub unread : f.missed.unread ≡ flat_map missing_of scans ++ missing_alone g scans alone
  pub malformed : f.missed.malformed ≡ flat_map broken_of scans ++ broken_alone g alone
  pub manifests : (agrees : List ℕ → List ℕ → Bool) → ReportsAgreement agrees
      → map (option_map manifest_view) f.manifests ≡ map (manifest_in agrees g) scans
  pub own : (place : ℕ) → IfSome (option_flatten (slice_get f.manifests place)) (IsManifestAt g place)
  pub workspace : IsWorkspaceBy g registries (workspace_reading g scans alone) f.workspace

-- the spans are made of the lock text and the found manifests
pub record IsPutTogether (g : Graph) (lock : Lock) (f : FoundManifests) (s : KrateSpans) : Type 0 where
  pub graph : graph_in s ≡ g
  pub lock_id : s.lock_id ≡ lock.id
  pub lock_spans : lock_spans_in s ≡ lock.spans
  pub manifests : manifests_in s ≡ f.manifests
  pub id : s.workspace_id ≡ f.workspace.id
  pub unread : Lists unread_cmp (Contains f.missed.unread) s.unread
  pub malformed : Lists (slice_cmp nat_cmp) (Contains f.missed.malformed) s.malformed
  pub shared : WorkspaceDeps
  pub spans : shared_in s ≡ shared.spans.items
  pub unused : s.unused_workspace_deps ≡ shared.unused
  pub are : (registries : List Registry) (tree : Option Value) → AreSharedIf g registries tree f.workspace.deps
      → AreShared g registries tree shared
