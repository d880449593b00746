-- Dependencies that a workspace shares: crates that several members declare and not always by the shared entry, and
-- entries that no crate comes from. The keys of both, and the message of each.
use Rattle.std.specs.Prelude.{◌&&◌, ◌||◌, ◌==◌, ◌++◌, ◌∷◌, ℕ, Bool, not, length, is_none, is_some, nat_le, List, []}
use Rattle.std.specs.Prelude.{Option, None, filter, find, map, option_and_then, option_map, codes, if◌then◌else◌}
use Rattle.std.specs.Fmt.{decimal}
use Rattle.std.specs.List.{flat_map, list_any}
use Rattle.std.specs.Option.{option_map_or}
use Rattle.deny_base.specs.Edge.{kind_number}
use Rattle.deny_base.specs.Level.{severity_of}
use Rattle.deny_base.specs.declared.code.Code.TheVariants as code
use Rattle.deny_base.specs.declared.edge.DepKind.{DepKind}
use Rattle.deny_base.specs.declared.key.Key.{Key}
use Rattle.deny_base.specs.declared.key.Section.TheVariants as section
use Rattle.deny_base.specs.declared.label.Label.{Label}
use Rattle.deny_base.specs.declared.span.Span.{Span}
use Rattle.deny_spec.specs.Graph.{Crate, Graph, crate_text}
use Rattle.deny_spec.specs.Keys.{key_of, no_span}
use Rattle.deny_spec.specs.Policy.{Policy, Sharing}
use Rattle.deny_spec.specs.DiagParts.{crate_at, kid_at, primary, secondary}
use Rattle.deny_spec.specs.View.{Declared, Manifest, View, WorkspaceEntry, manifest_of, shared_at}
use Rattle.deny_spec.specs.Wrappers.{same_span}
use Rattle.deny_spec_report.specs.MessageParts.{not_built, plainly}
use Rattle.deny_spec_report.specs.Wildcards.{is_active}
use Rattle.deny_spec_report.specs.declared.message.Message.{Message}

-- ---- what members declare

-- a manifest leaves dependencies of a kind out
unfoldable pub is_left_out : Manifest → DepKind → Bool
is_left_out m kind = list_any (λ other. kind_number other == kind_number kind) m.ignored

-- whether a declaration counts: its kind is not left out, and one by a path counts where the policy says so
unfoldable pub counts_here : Sharing → Manifest → Declared → Bool
counts_here s m d = not (is_left_out m d.declaration.kind) && (s.with_paths || is_none d.declaration.path)

-- a declaration, and the number of its file
pub record Use : Type 0 where
  pub file : ℕ
  pub declared : Declared

unfoldable pub use_in : Manifest → Declared → Use
use_in m d = record { file = m.file; declared = d }

unfoldable pub uses_in : Sharing → Manifest → List Use
uses_in s m = map (use_in m) (filter (counts_here s m) m.deps)

-- the declarations of the member at a place that count, where its manifest was read
unfoldable pub uses_at : Sharing → Graph → View → ℕ → List Use
uses_at s g view place =
    option_map_or (uses_in s) (option_and_then (manifest_of view) (crate_at g place)) []

-- the declarations of all members that count, by the places of the members, and of each in its order
unfoldable pub all_uses : Sharing → Graph → View → List Use
all_uses s g view = flat_map (uses_at s g view) g.members

-- the declarations that resolve to the crate at a place
unfoldable pub is_use_of : ℕ → Use → Bool
is_use_of place usage = usage.declared.child == place

abbrev pub uses_of : Sharing → Graph → View → ℕ → List Use
uses_of s g view place = filter (is_use_of place) (all_uses s g view)

-- a declaration does not say whether the workspace declares the dependency
unfoldable pub is_unshared : Use → Bool
is_unshared usage = is_none usage.declared.workspace

-- ---- keys

unfoldable pub is_duplicated : List Use → Bool
is_duplicated uses = nat_le 2 (length uses) && list_any is_unshared uses

unfoldable pub workspace_duplicate_keys_of : Sharing → Graph → View → Crate → List Key
workspace_duplicate_keys_of s g view c = if is_duplicated (uses_of s g view c.place)
    then key_of section.Workspace code.WorkspaceDuplicate c.place no_span 0 ∷ [] else []

-- a workspace of one member shares nothing
unfoldable pub workspace_duplicate_keys_by : Graph → View → Sharing → List Key
workspace_duplicate_keys_by g view s = if is_active s.duplicates && nat_le 2 (length g.members)
    then flat_map (workspace_duplicate_keys_of s g view) g.crates else []

abbrev pub workspace_duplicate_keys : Policy → Graph → View → List Key
workspace_duplicate_keys p g view = option_map_or (workspace_duplicate_keys_by g view) p.sharing []

unfoldable pub unused_entry_key : WorkspaceEntry → Key
unused_entry_key e = key_of section.Workspace code.UnusedWorkspaceDependency 0 e.key 0

unfoldable pub unused_entry_keys_by : View → Sharing → List Key
unused_entry_keys_by view s = if is_active s.unused then map unused_entry_key view.unused else []

abbrev pub unused_entry_keys : Policy → View → List Key
unused_entry_keys p view = option_map_or (unused_entry_keys_by view) p.sharing []

-- ---- messages

-- a label at an optional span
abbrev pub note_at : ℕ → List ℕ → Option Span → List Label
note_at file message at = option_map_or (λ span. secondary file span message ∷ []) at []

-- the spans of the names that an entry and a declaration give a dependency
abbrev pub entry_rename : WorkspaceEntry → Option Span
entry_rename e = option_map (λ rename. rename.span) e.rename

abbrev pub declared_rename : Declared → Option Span
declared_rename d = option_map (λ rename. rename.span) d.rename

abbrev pub entry_message : WorkspaceEntry → List ℕ
entry_message e = if is_some e.patched then codes "patched workspace dependency" else codes "workspace dependency"

unfoldable pub patched_note : List ℕ
patched_note = codes "note this is the original dependency that is patched"

unfoldable pub renamed_entry_note : List ℕ
renamed_entry_note = codes "note the workspace dependency is renamed"

unfoldable pub renamed_note : List ℕ
renamed_note = codes "note the dependency is renamed"

-- the labels at the shared entry of the crate
unfoldable pub entry_labels : ℕ → WorkspaceEntry → List Label
entry_labels file e = secondary file e.key (entry_message e)
    ∷ (note_at file patched_note e.patched ++ note_at file renamed_entry_note (entry_rename e))

unfoldable pub entry_labels_in : View → WorkspaceEntry → List Label
entry_labels_in view e = option_map_or (λ file. entry_labels file e) view.workspace []

-- the labels at a declaration that does not say whether the workspace declares it
unfoldable pub use_labels : Use → List Label
use_labels usage = primary usage.file usage.declared.key []
    ∷ note_at usage.file renamed_note (declared_rename usage.declared)

unfoldable pub unshared_labels : List Use → List Label
unshared_labels uses = flat_map use_labels (filter is_unshared uses)

unfoldable pub workspace_duplicate_labels : Sharing → Graph → View → ℕ → List Label
workspace_duplicate_labels s g view place = option_map_or (entry_labels_in view) (shared_at view place) []
    ++ unshared_labels (uses_of s g view place)

unfoldable pub not_all_shared : List ℕ
not_all_shared = codes "but not all declarations use the shared workspace dependency"

unfoldable pub none_shared : List ℕ
none_shared = codes "and there is no shared workspace dependency for it"

abbrev pub sharing_message : View → ℕ → List ℕ
sharing_message view place = if is_some (shared_at view place) then not_all_shared else none_shared

unfoldable pub workspace_duplicate_message : Sharing → Graph → View → Crate → List ℕ
workspace_duplicate_message s g view c = codes "crate " ++ (crate_text c ++ (codes " is used "
    ++ (decimal (length (uses_of s g view c.place)) ++ (codes " times in the workspace, "
    ++ sharing_message view c.place))))

unfoldable pub workspace_duplicate_diag_by : Graph → View → Key → Sharing → Message
workspace_duplicate_diag_by g view key s = plainly (severity_of s.duplicates)
    (option_map_or (workspace_duplicate_message s g view) (crate_at g key.place) [])
    (workspace_duplicate_labels s g view key.place)
    (kid_at g key.place)

unfoldable pub workspace_duplicate_diag : Policy → Graph → View → Key → Message
workspace_duplicate_diag p g view key = option_map_or (workspace_duplicate_diag_by g view key) p.sharing not_built

-- the unused entry at a key of the workspace's manifest
abbrev pub unused_at : View → Span → Option WorkspaceEntry
unused_at view span = find (λ e. same_span e.key span) view.unused

abbrev pub unused_message : WorkspaceEntry → List ℕ
unused_message e =
    if is_some e.patched then codes "unused and patched workspace dependency" else codes "unused workspace dependency"

unfoldable pub unused_labels : ℕ → WorkspaceEntry → List Label
unused_labels file e = primary file e.key (unused_message e)
    ∷ (note_at file patched_note e.patched ++ note_at file renamed_note (entry_rename e))

unfoldable pub unused_labels_in : View → WorkspaceEntry → List Label
unused_labels_in view e = option_map_or (λ file. unused_labels file e) view.workspace []

unfoldable pub unused_entry_message : List ℕ
unused_entry_message = codes "workspace dependency is declared, but unused"

unfoldable pub unused_entry_diag_by : View → Key → Sharing → Message
unused_entry_diag_by view key s = plainly (severity_of s.unused) unused_entry_message
    (option_map_or (unused_labels_in view) (unused_at view key.entry) [])
    None

unfoldable pub unused_entry_diag : Policy → View → Key → Message
unused_entry_diag p view key = option_map_or (unused_entry_diag_by view key) p.sharing not_built
