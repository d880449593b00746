-- What was read of manifests: their texts and trees, and the files that they are kept as.
use Rattle.std.specs.Prelude.{◌≡◌, ◌<◌, ⊤, ℕ, ◌+◌, ◌^◌, IfSome, List, [], ◌∷◌, None, Option, Some, length}
use Rattle.std.specs.Prelude.{is_none, option_and_then, position, ◌&&◌, Bool, find, if◌then◌else◌}
use Rattle.std.specs.Option.{IsSomeAnd, option_map_or}
use Rattle.std.specs.Str.{IsUtf8, is_utf8}
use Rattle.deny_base_disk.specs.Disk.{Files, bytes_at}
use Rattle.deny_base.specs.declared.files.File.{File}
use Rattle.deny_spans_manifest.specs.Fault.{HasNoTree}
use Rattle.deny_spec.specs.Graph.{Crate, Graph}
use Rattle.deny_spec.specs.Text.{same_text}
use Rattle.deny_spans.specs.Paths.{workspace_path}
use Rattle.deny_toml.specs.Parser.{IsTreeOf}
use Rattle.deny_toml.specs.value.Value.{Value}

-- a text that was read from a manifest
pub record Reading : Type 0 where
  pub text : List ℕ
  -- none where the text is no UTF-8 or no TOML, or goes past the limits
  pub tree : Option Value
  -- the number of the file that the text is kept as; a text that is no UTF-8 is kept as no file
  pub number : ℕ

-- a crate with what was read of its manifest, if anything
pub record ManifestScan : Type 0 where
  pub crate : Crate
  pub read : Option Reading

-- ---- texts

-- a text has this tree, or it has none
abbrev pub ReadsAs : List ℕ → Option Value → Type 0
ReadsAs text (Some tree) = IsUtf8 text × IsTreeOf text tree
ReadsAs text None = IsUtf8 text → HasNoTree text

-- the text is what the disk holds at the path, where the disk tells its files
pub record IsReadAt (told : Option Files) (path : List ℕ) (r : Reading) : Type 0 where
  pub bytes : IfSome told (λ files. r.text ≡ bytes_at files path)
  pub short : length r.text < 2 ^ 28
  pub reads : ReadsAs r.text r.tree

-- the manifest of a crate was read only where the crate has no source
pub record IsManifestScan (told : Option Files) (l : ManifestScan) : Type 0 where
  pub local : IfSome l.crate.source (λ _. l.read ≡ None)
  pub read : IfSome l.read (IsReadAt told l.crate.manifest_path)

-- the tree of a text that was read
abbrev pub tree_of : Option Reading → Option Value
tree_of read = option_and_then (λ r. r.tree) read

-- a text was read that has no tree
abbrev pub IsBroken : Option Reading → Type 0
IsBroken read = IsSomeAnd read (λ r. r.tree ≡ None)

-- ---- files

-- the file that a text from a path is kept as, where it is UTF-8
abbrev pub text_file : List ℕ → List ℕ → List File
text_file path text = if is_utf8 text then record { path = path; source = text } ∷ [] else []

-- the file that what was read from a path is kept as
abbrev pub kept_as : List ℕ → Option Reading → List File
kept_as path None = []
kept_as path (Some r) = text_file path r.text

unfoldable pub kept_of : ManifestScan → List File
kept_of l = kept_as l.crate.manifest_path l.read

-- the number of the file that a text is kept as
abbrev pub number_of : Option Reading → Option ℕ
number_of read = option_and_then (λ r. if is_utf8 r.text then Some r.number else None) read

-- files are numbered one after another from this number on
abbrev pub AreNumbered : ℕ → List ManifestScan → Type 0
AreNumbered number [] = ⊤
AreNumbered number (l ∷ ls) = IfSome l.read (λ r. r.number ≡ number) × AreNumbered (number + length (kept_of l)) ls

-- ---- the workspace's manifest

-- whether a crate's manifest is that of the workspace
unfoldable pub is_workspaces : Graph → Crate → Bool
is_workspaces g c = is_none c.source && same_text c.manifest_path (workspace_path g.root)

-- the place of the first crate whose manifest is that of the workspace
abbrev pub home_in : Graph → Option ℕ
home_in g = position (is_workspaces g) g.crates

-- the scan of the first crate whose manifest is that of the workspace
abbrev pub workspace_scan : Graph → List ManifestScan → Option ManifestScan
workspace_scan g scans = find (λ l. is_workspaces g l.crate) scans

-- what was read of the workspace's manifest: as that of the first such crate, or else on its own
unfoldable pub workspace_reading : Graph → List ManifestScan → Option Reading → Option Reading
workspace_reading g scans alone = option_map_or (λ l. l.read) (workspace_scan g scans) alone
