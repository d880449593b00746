-- The manifest of the workspace, and what its dependencies resolve to.
use Rattle.std.specs.Prelude.{◌≡◌, ◌<◌, ℕ, ◌^◌, ◌++◌, ◌&&◌, Bool, IfSome, List, MatchOption, None, Option, Some}
use Rattle.std.specs.Prelude.{is_none, is_some, length, map, option_map, slice_get}
use Rattle.std.specs.Option.{option_and_then, option_flatten}
use Rattle.deny_base_disk.specs.Disk.{Files}
use Rattle.deny_base.specs.declared.files.File.{File}
use Rattle.deny_krates.specs.krate.Krate.{Krate}
use Rattle.deny_spec.specs.Graph.{Graph}
use Rattle.deny_spec.specs.Text.{same_text}
use Rattle.deny_spans.specs.ManifestScan.{IsReadAt, ReadsAs, Reading, home_in, kept_as, number_of, tree_of}
use Rattle.deny_spans.specs.Paths.{workspace_path}
use Rattle.deny_spans.specs.Seen.{entries_by}
use Rattle.deny_spans.specs.declared.missed.Missed.{Missed}
use Rattle.deny_spans.specs.declared.workspace.Workspace.{Workspace}
use Rattle.deny_spans.specs.private.Gathered.{broken_if, is_broken, reading}
use Rattle.deny_toml.specs.value.Value.{Value}
use Rattle.deny_base.specs.Unread.{asked, if_unread}
use Rattle.deny_base.specs.declared.purpose.Purpose.TheVariants as purpose
use Rattle.deny_spans_workspace.specs.Workspace.{AreSpans, dep_view, unused_in}
use Rattle.deny_spans_workspace.specs.declared.registries.Registry.{Registry}
use Rattle.deny_spans_workspace.specs.declared.workspace.WorkspaceDeps.{WorkspaceDeps}

-- what the dependencies of a workspace resolve to, by the tree of its manifest
pub record AreShared (g : Graph) (registries : List Registry) (tree : Option Value)
    (deps : WorkspaceDeps) : Type 0 where
  pub spans : AreSpans g (entries_by g registries tree) deps.spans.items
  pub unused : map (dep_view None) deps.unused ≡ unused_in (entries_by g registries tree)

-- the dependencies are there exactly where the manifest has a tree
pub record AreSharedIf (g : Graph) (registries : List Registry) (tree : Option Value) (deps : Option WorkspaceDeps)
    : Type 0 where
  pub some : is_some deps ≡ is_some tree
  pub are : IfSome deps (AreShared g registries tree)

-- the workspace's dependencies by the text of its manifest
pub record AreSharedIn (g : Graph) (registries : List Registry) (text : List ℕ)
    (deps : Option WorkspaceDeps) : Type 0 where
  pub tree : Option Value
  pub reads : ReadsAs text tree
  pub are : AreSharedIf g registries tree deps

-- the workspace's dependencies by the text of its manifest, if there is one
abbrev pub AreSharedOf : Graph → List Registry → Option (List ℕ) → Option WorkspaceDeps → Type 0
AreSharedOf g registries None deps = deps ≡ None
AreSharedOf g registries (Some text) deps = AreSharedIn g registries text deps

-- the text of the file with a number
abbrev pub text_at : List File → Option ℕ → Option (List ℕ)
text_at files id = option_and_then (λ number. option_map (λ file. file.source) (slice_get files number)) id

abbrev pub is_home : List ℕ → Krate → Bool
is_home path k = is_none k.source && same_text k.manifest_path path

-- the file of the first crate whose manifest is the workspace's
abbrev pub home_file : Graph → List (Option ℕ) → Option ℕ
home_file g numbers = option_flatten (option_and_then (slice_get numbers) (home_in g))

-- the text of the workspace's manifest, where that is a crate's, is short enough to be parsed
abbrev pub IsShortAt : Graph → List (Option ℕ) → List File → Type 0
IsShortAt g numbers files = IfSome (text_at files (home_file g numbers)) (λ text. length text < 2 ^ 28)

-- the workspace's manifest is a crate's, which was kept as a file
pub record IsOfCrate (g : Graph) (registries : List Registry) (numbers : List (Option ℕ)) (files : List File)
    (w : Workspace)
    : Type 0 where
  pub id : w.id ≡ home_file g numbers
  pub deps : AreSharedOf g registries (text_at files w.id) w.deps

-- the workspace's manifest by what was read of it
pub record IsWorkspaceBy (g : Graph) (registries : List Registry) (read : Option Reading) (w : Workspace) : Type 0 where
  pub id : w.id ≡ number_of read
  pub deps : AreSharedIf g registries (tree_of read) w.deps

-- the workspace's manifest was read where it is no crate's
pub record IsReadAlone (told : Option Files) (g : Graph) (registries : List Registry) (old_files new_files : List File)
    (old new : Missed) (w : Workspace) : Type 0 where
  pub alone : Option Reading
  pub at : IfSome alone (IsReadAt told (workspace_path g.root))
  pub numbered : IfSome alone (λ r. r.number ≡ length old_files)
  pub files : new_files ≡ old_files ++ kept_as (workspace_path g.root) alone
  pub unread : new.unread ≡ old.unread ++ if_unread (asked None purpose.Manifest (workspace_path g.root))
      (is_some alone)
  pub malformed : new.malformed ≡ old.malformed ++ broken_if (workspace_path g.root) (is_broken alone)
  pub is : IsWorkspaceBy g registries alone w

-- a text that was read alone was kept as a file, where it is UTF-8
pub record IsKeptAlone (g : Graph) (registries : List Registry) (path text : List ℕ) (old new : List File)
    (w : Workspace)
    : Type 0 where
  pub tree : Option Value
  pub reads : ReadsAs text tree
  pub files : new ≡ old ++ kept_as path (Some (reading text tree (length old)))
  pub is : IsWorkspaceBy g registries (Some (reading text tree (length old))) w

-- the workspace's manifest was not read again, since it is a crate's
pub record IsNotRead (g : Graph) (registries : List Registry) (numbers : List (Option ℕ))
    (old_files new_files : List File)
    (old new : Missed) (w : Workspace) : Type 0 where
  pub files : new_files ≡ old_files
  pub unread : new.unread ≡ old.unread
  pub malformed : new.malformed ≡ old.malformed
  pub is : IsOfCrate g registries numbers old_files w

-- the workspace's manifest is a crate's, or was read on its own
abbrev pub IsWorkspaceIn : Option Files → Graph → List Registry → List (Option ℕ) → List File → List File → Missed
    → Missed
    → Workspace → Type 0
IsWorkspaceIn told g registries numbers old_files new_files old new w =
    MatchOption (home_in g) (IsReadAlone told g registries old_files new_files old new w)
    (λ place. IsNotRead g registries numbers old_files new_files old new w)
