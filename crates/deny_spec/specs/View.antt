-- A view: what was read of the manifests of crates, and of what the workspace's manifest shares.
use Rattle.std.specs.Prelude.{ℕ, Bool, List, [], Option, None, slice_get}
use Rattle.std.specs.Option.{option_flatten}
use Rattle.semver.specs.Parse.{Held}
use Rattle.deny_base.specs.declared.edge.DepKind.{DepKind}
use Rattle.deny_base.specs.declared.span.Span.{Span}
use Rattle.deny_base.specs.declared.span.Spanned.{Spanned}
use Rattle.deny_spec.specs.Graph.{Crate, Dependency}

-- a declaration of a crate that resolves and that its manifest writes
pub record Declared : Type 0 where
  -- its index among the declarations of the crate
  pub index : ℕ
  pub declaration : Dependency
  -- the place of the crate that it resolves to
  pub child : ℕ
  -- the spans of the key and the value that it is written by
  pub key : Span
  pub value : Span
  pub version_req : Option (Spanned (List Held))
  pub workspace : Option (Spanned Bool)
  pub rename : Option (Spanned (List ℕ))

-- the manifest of a crate: the number of its file, the declarations that it writes, in their order, and the kinds that
-- it asks to leave out where duplicates are looked for
pub record Manifest : Type 0 where
  pub file : ℕ
  pub deps : List Declared
  pub ignored : List DepKind

-- an entry of what a workspace shares: the spans of its key and its value, what its value says, and the place of the
-- crate that it resolves to
pub record WorkspaceEntry : Type 0 where
  pub key : Span
  pub value : Span
  pub version : Option (Spanned (List Held))
  pub rename : Option (Spanned (List ℕ))
  -- the span of its own key, where a patch takes its place
  pub patched : Option Span
  pub place : Option ℕ

pub record View : Type 0 where
  -- the manifest of the crate at each place; none of a crate with a source, and none where it was not read or is
  -- malformed
  pub manifests : List (Option Manifest)
  -- the number of the file that is the workspace's manifest; none where that was not read or is no text
  pub workspace : Option ℕ
  -- the shared entry of the crate at each place, and the shared entries of no crate
  pub shared : List (Option WorkspaceEntry)
  pub unused : List WorkspaceEntry

-- the view of a run that read no file
abbrev pub nothing_seen : View
nothing_seen = record { manifests = []; workspace = None; shared = []; unused = [] }

-- the manifest of a crate
abbrev pub manifest_of : View → Crate → Option Manifest
manifest_of view c = option_flatten (slice_get view.manifests c.place)

-- the shared entry of the crate at a place
abbrev pub shared_at : View → ℕ → Option WorkspaceEntry
shared_at view place = option_flatten (slice_get view.shared place)
