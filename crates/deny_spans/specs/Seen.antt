-- What was seen of the manifests of a graph's crates and of its workspace.
use Rattle.std.specs.Prelude.{◌≡◌, ℕ, ◌+◌, ◌++◌, Bool, Contains, IfSome, List, [], None, Option, Some, length, map}
use Rattle.std.specs.Prelude.{option_map}
use Rattle.std.specs.Cmp.Lexicographic.{slice_cmp}
use Rattle.std.specs.List.{flat_map}
use Rattle.std.specs.Option.{option_map_or}
use Rattle.std.specs.Ordering.{nat_cmp}
use Rattle.deny_base_lists.specs.Ascending.{Lists}
use Rattle.deny_base_disk.specs.Disk.{Files}
use Rattle.deny_base.specs.declared.files.File.{File}
use Rattle.deny_krates_lock.specs.Text.{lock_text}
use Rattle.deny_spans_manifest.specs.Agreement.{ReportsAgreement}
use Rattle.deny_spans_manifest.specs.Declarations.{declared_in}
use Rattle.deny_spans_manifest.specs.Ignored.{ignored_at}
use Rattle.deny_spec.specs.Graph.{Crate, Graph, kid_of}
use Rattle.deny_spec.specs.View.{Manifest, View, WorkspaceEntry}
use Rattle.deny_spans.specs.ManifestScan.{AreNumbered, IsBroken, IsManifestScan, IsReadAt, ManifestScan, Reading}
use Rattle.deny_spans.specs.ManifestScan.{kept_as, kept_of, number_of}
use Rattle.deny_spans.specs.ManifestScan.{tree_of, workspace_scan, workspace_reading}
use Rattle.deny_spans.specs.Paths.{lock_path, workspace_path}
use Rattle.deny_toml.specs.value.Value.{Value}
use Rattle.deny_base.specs.Unread.{asked, unread_cmp}
use Rattle.deny_base.specs.declared.purpose.Purpose.TheVariants as purpose
use Rattle.deny_base.specs.declared.unread.Unread.{Unread}
use Rattle.deny_spans_workspace.specs.Workspace.{entries_in, span_of, unused_in}
use Rattle.deny_spans_workspace.specs.declared.registries.Registry.{Registry}

-- the lock text as a file
abbrev pub lock_file : List ℕ → Graph → File
lock_file name g = record { path = lock_path name; source = lock_text g.crates }

-- The manifests of all crates were scanned once, in graph order, and the workspace's on its own where it is no
-- crate's; their files are numbered from `first` on.
pub record AreManifestScans (told : Option Files) (g : Graph) (first : ℕ) (scans : List ManifestScan)
    (alone : Option Reading)
    : Type 0 where
  pub crates : map (λ l. l.crate) scans ≡ g.crates
  pub each : (l : ManifestScan) → Contains scans l → IsManifestScan told l
  pub numbers : AreNumbered first scans
  -- a workspace's manifest that is a crate's is not read again
  pub once : IfSome (workspace_scan g scans) (λ _. alone ≡ None)
  pub own : IfSome alone (IsReadAt told (workspace_path g.root))
  pub number : IfSome alone (λ r. r.number ≡ first + length (flat_map kept_of scans))

-- the entry of a manifest that was to be read and was not
pub data IsMissing (g : Graph) (scans : List ManifestScan) (alone : Option Reading) (u : Unread) : Type 0 where
  of_crate : (l : ManifestScan) → Contains scans l → l.crate.source ≡ None → l.read ≡ None
      → u ≡ asked (Some (kid_of l.crate)) purpose.Manifest l.crate.manifest_path → IsMissing g scans alone u
  of_workspace : workspace_scan g scans ≡ None → alone ≡ None
      → u ≡ asked None purpose.Manifest (workspace_path g.root) → IsMissing g scans alone u

-- the path of a manifest that was read and has no tree
pub data IsMalformed (g : Graph) (scans : List ManifestScan) (alone : Option Reading) (path : List ℕ) : Type 0 where
  at_crate : (l : ManifestScan) → Contains scans l → IsBroken l.read → path ≡ l.crate.manifest_path
      → IsMalformed g scans alone path
  at_workspace : IsBroken alone → path ≡ workspace_path g.root → IsMalformed g scans alone path

-- the manifest of a crate, by what was read of it
abbrev pub manifest_by : (List ℕ → List ℕ → Bool) → Graph → Crate → ℕ → Value → Manifest
manifest_by agrees g c number tree = record {
  file = number;
  deps = declared_in agrees g c tree;
  ignored = ignored_at g c.place tree;
}

abbrev pub manifest_read : (List ℕ → List ℕ → Bool) → Graph → Crate → Reading → Option Manifest
manifest_read agrees g c r = option_map (manifest_by agrees g c r.number) r.tree

-- the manifest of a scan; none where nothing was read, or what was read has no tree
unfoldable pub manifest_in : (List ℕ → List ℕ → Bool) → Graph → ManifestScan → Option Manifest
manifest_in agrees g l = option_map_or (manifest_read agrees g l.crate) l.read None

-- the entries that a workspace shares, by the tree of its manifest
abbrev pub entries_by : Graph → List Registry → Option Value → List WorkspaceEntry
entries_by g registries tree = option_map_or (entries_in g registries) tree []

-- the view of what was read
pub record IsViewOf (g : Graph) (registries : List Registry) (scans : List ManifestScan) (workspace : Option Reading)
    (view : View)
    : Type 0 where
  pub manifests : (agrees : List ℕ → List ℕ → Bool) → ReportsAgreement agrees
      → view.manifests ≡ map (manifest_in agrees g) scans
  pub number : view.workspace ≡ number_of workspace
  pub shared : view.shared ≡ map (λ c. span_of (entries_by g registries (tree_of workspace)) c.place) g.crates
  pub unused : view.unused ≡ unused_in (entries_by g registries (tree_of workspace))

-- What was seen on a disk that may tell its files: the files added behind the old ones, the entries for what was not
-- read, the paths of malformed manifests, and the view.
pub record IsSeen (told : Option Files) (g : Graph) (registries : List Registry) (old new : List File)
    (unread : List Unread)
    (malformed : List (List ℕ)) (view : View) : Type 0 where
  pub scans : List ManifestScan
  pub alone : Option Reading
  pub are : AreManifestScans told g (length old) scans alone
  pub files : new ≡ old ++ (flat_map kept_of scans ++ kept_as (workspace_path g.root) alone)
  pub missing : Lists unread_cmp (IsMissing g scans alone) unread
  pub broken : Lists (slice_cmp nat_cmp) (IsMalformed g scans alone) malformed
  pub seen : IsViewOf g registries scans (workspace_reading g scans alone) view
