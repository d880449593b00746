-- The files that are there after an error: none was added, or those of the first manifests that were to be read.
use Rattle.std.specs.Prelude.{◌≡◌, ◌<◌, ◌^◌, ◌++◌, ◌⊎◌, ℕ, IfSome, List, [], ◌∷◌, None, Option, Some}
use Rattle.std.specs.Prelude.{if◌then◌else◌, is_some, length}
use Rattle.std.specs.List.{flat_map}
use Rattle.deny_base.specs.Unread.{asked}
use Rattle.deny_base.specs.declared.files.File.{File}
use Rattle.deny_base.specs.declared.purpose.Purpose.TheVariants as purpose
use Rattle.deny_base.specs.declared.unread.Unread.{Unread}
use Rattle.deny_base_disk.specs.Disk.{Disk, Files, bytes_at}
use Rattle.deny_base_lists.specs.Prefix.{Gains, IsPrefix}
use Rattle.deny_base_unread.specs.Bound.{Folders}
use Rattle.deny_base_unread.specs.Causes.{AreCaused}
use Rattle.deny_spec.specs.Graph.{Crate, Graph, kid_of}
use Rattle.deny_spans.specs.ManifestScan.{home_in, text_file}
use Rattle.deny_spans.specs.Paths.{workspace_path}
use Rattle.deny_spans.specs.Seen.{lock_file}

-- ---- the manifests that are to be read, each by the entry that is for it

-- the manifest of a crate, which is read where the crate has no source
abbrev pub own_manifest : Crate → List Unread
own_manifest c = if is_some c.source then [] else asked (Some (kid_of c)) purpose.Manifest c.manifest_path ∷ []

-- the manifest of the workspace, which is read on its own where it is no crate's
abbrev pub lone_manifest : Graph → List Unread
lone_manifest g = if is_some (home_in g) then [] else asked None purpose.Manifest (workspace_path g.root) ∷ []

-- all of them, in the order in which they are read
abbrev pub manifests_in_order : Graph → List Unread
manifests_in_order g = flat_map own_manifest g.crates ++ lone_manifest g

-- ---- the files of the first of them

-- the text is what the disk holds at the path, where the disk tells its files
pub record IsTextAt (told : Option Files) (path text : List ℕ) : Type 0 where
  pub bytes : IfSome told (λ files. text ≡ bytes_at files path)
  pub short : length text < 2 ^ 28

-- Manifests, the files that those of them are kept as whose texts were read, and the entries of the others; each in the
-- order of the manifests.
pub data AreKept (told : Option Files) : List Unread → List File → List Unread → Type 0 where
  none : AreKept told [] [] []
  one_read : {manifests unread : List Unread} {files : List File} (m : Unread) (text : List ℕ)
      → IsTextAt told m.path text → AreKept told manifests files unread
      → AreKept told (m ∷ manifests) (text_file m.path text ++ files) unread
  one_unread : {manifests unread : List Unread} {files : List File} (m : Unread) → AreKept told manifests files unread
      → AreKept told (m ∷ manifests) files (m ∷ unread)

-- the files are those of the first manifests of a graph; each of these that was not read has its cause
pub record AreOfFirst (old new : Disk) (g : Graph) (files : List File) : Type 0 where
  pub first : List Unread
  pub is_first : IsPrefix (manifests_in_order g) first
  pub unread : List Unread
  pub kept : AreKept old.files first files unread
  pub caused : (folder : Folders) → AreCaused folder old new unread

-- the files are the old ones, or behind these are the lock text and the files of the first manifests
abbrev pub AreBegun : Disk → Disk → Graph → List ℕ → List File → List File → Type 0
AreBegun old new g lock_name old_files new_files =
    (new_files ≡ old_files) ⊎ Gains (AreOfFirst old new g) (old_files ++ lock_file lock_name g ∷ []) new_files
