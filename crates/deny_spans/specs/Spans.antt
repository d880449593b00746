-- The spans of a view lie in the files that they point into, on character boundaries; these files come behind others.
use Rattle.std.specs.Prelude.{◌≡◌, ◌≤◌, ℕ, Contains, IfSome, List, Option, Some, slice_get}
use Rattle.deny_base.specs.declared.files.File.{File}
use Rattle.deny_base.specs.declared.span.Spanned.{Spanned}
use Rattle.deny_spec.specs.View.{Declared, Manifest, View, WorkspaceEntry}
use Rattle.deny_toml.specs.Spans.{IsSpan}

-- the span of an optional value lies in the text
abbrev pub IsPlaced : {A : Type 0} → List ℕ → Option (Spanned A) → Type 0
IsPlaced text found = IfSome found (λ s. IsSpan text s.span)

pub record DeclaredLies (text : List ℕ) (d : Declared) : Type 0 where
  pub key : IsSpan text d.key
  pub value : IsSpan text d.value
  pub version_req : IsPlaced text d.version_req
  pub workspace : IsPlaced text d.workspace
  pub rename : IsPlaced text d.rename

pub record EntryLies (text : List ℕ) (e : WorkspaceEntry) : Type 0 where
  pub key : IsSpan text e.key
  pub value : IsSpan text e.value
  pub version : IsPlaced text e.version
  pub rename : IsPlaced text e.rename
  pub patched : IfSome e.patched (IsSpan text)

-- the spans of a manifest's declarations lie in its file, which comes behind the first files
pub record ManifestLies (first : ℕ) (files : List File) (m : Manifest) : Type 0 where
  pub file : File
  pub behind : first ≤ m.file
  pub is : slice_get files m.file ≡ Some file
  pub deps : (d : Declared) → Contains m.deps d → DeclaredLies file.source d

-- the spans of a shared entry lie in the workspace's file, which has this number and comes behind the first files
pub record SharedLies (first : ℕ) (files : List File) (workspace : Option ℕ) (e : WorkspaceEntry) : Type 0 where
  pub number : ℕ
  pub file : File
  pub in_file : workspace ≡ Some number
  pub behind : first ≤ number
  pub is : slice_get files number ≡ Some file
  pub entry : EntryLies file.source e

pub record ViewLies (first : ℕ) (files : List File) (view : View) : Type 0 where
  pub manifests : (m : Manifest) → Contains view.manifests (Some m) → ManifestLies first files m
  pub shared : (e : WorkspaceEntry) → Contains view.shared (Some e) → SharedLies first files view.workspace e
  pub unused : (e : WorkspaceEntry) → Contains view.unused e → SharedLies first files view.workspace e
