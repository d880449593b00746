-- Which manifests are to be read, each once: the entries for those that were not, and their bytes.
use Rattle.std.specs.Prelude.{◌≡◌, ◌+◌, ℕ, Contains, List, None, Some, if◌then◌else◌, is_some, length}
use Rattle.std.specs.List.{sum_by}
use Rattle.deny_base_disk.specs.Disk.{Files, bytes_at}
use Rattle.deny_spec.specs.Graph.{Crate, Graph, kid_of}
use Rattle.deny_spans.specs.ManifestScan.{home_in}
use Rattle.deny_spans.specs.Paths.{workspace_path}
use Rattle.deny_base.specs.Unread.{asked}
use Rattle.deny_base.specs.declared.purpose.Purpose.TheVariants as purpose
use Rattle.deny_base.specs.declared.unread.Unread.{Unread}

-- an entry is for the manifest of a crate without a source, or for that of the workspace
pub data IsWanted (g : Graph) (u : Unread) : Type 0 where
  by_crate : (c : Crate) → Contains g.crates c → c.source ≡ None
      → u ≡ asked (Some (kid_of c)) purpose.Manifest c.manifest_path → IsWanted g u
  by_workspace : u ≡ asked None purpose.Manifest (workspace_path g.root) → IsWanted g u

abbrev pub AreWanted : Graph → List Unread → Type 0
AreWanted g us = (u : Unread) → Contains us u → IsWanted g u

-- the bytes of a crate's manifest, which is read where the crate has no source
abbrev pub bytes_of : Files → Crate → ℕ
bytes_of files c = if is_some c.source then 0 else length (bytes_at files c.manifest_path)

-- the bytes of the workspace's manifest, which is read on its own where it is no crate's
abbrev pub bytes_alone : Files → Graph → ℕ
bytes_alone files g = if is_some (home_in g) then 0 else length (bytes_at files (workspace_path g.root))

-- the bytes of all manifests that are to be read
abbrev pub bytes_wanted : Files → Graph → ℕ
bytes_wanted files g = sum_by (bytes_of files) g.crates + bytes_alone files g
