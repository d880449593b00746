-- Wildcards: dependencies whose requirement any version meets, as the manifests of crates write them. The keys of those
-- that a policy does not allow and of those that no entry of the workspace declares, and the message of each key.
use Rattle.std.specs.Prelude.{◌&&◌, ◌||◌, ◌==◌, ◌++◌, ◌∷◌, ℕ, Bool, true, false, not, length, is_none, List, []}
use Rattle.std.specs.Prelude.{Option, filter, find, map, option_and_then, codes, if◌then◌else◌}
use Rattle.std.specs.Fmt.{decimal}
use Rattle.std.specs.List.{flat_map}
use Rattle.std.specs.Option.{option_map_or}
use Rattle.deny_base.specs.Level.{severity_of}
use Rattle.deny_base.specs.declared.code.Code.TheVariants as code
use Rattle.deny_base.specs.declared.edge.DepKind.{DepKind}
use Rattle.deny_base.specs.declared.edge.DepKind.TheVariants as kind
use Rattle.deny_base.specs.declared.key.Key.{Key}
use Rattle.deny_base.specs.declared.label.Label.{Label}
use Rattle.deny_base.specs.declared.level.LintLevel.{LintLevel}
use Rattle.deny_base.specs.declared.level.LintLevel.TheVariants as level
use Rattle.deny_base.specs.declared.level.Severity.TheVariants as severity
use Rattle.deny_base.specs.declared.span.Span.{Span}
use Rattle.deny_spec.specs.Crates.{is_git_source, is_private, is_registry}
use Rattle.deny_spec.specs.Facts.{Facts}
use Rattle.deny_spec.specs.Graph.{Crate, Graph}
use Rattle.deny_spec.specs.Groups.{is_marked, is_in_skipped_tree}
use Rattle.deny_spec.specs.Keys.{crate_key, no_span}
use Rattle.deny_spec.specs.Policy.{Policy}
use Rattle.deny_spec.specs.DiagParts.{crate_at, crate_name_at, kid_at, primary, secondary}
use Rattle.deny_spec.specs.View.{Declared, Manifest, View, WorkspaceEntry, manifest_of, shared_at}
use Rattle.deny_spec.specs.Wrappers.{same_span}
use Rattle.deny_spec_report.specs.MessageParts.{plainly}
use Rattle.deny_spec_report.specs.declared.message.Message.{Message}

-- a level is active: it is not `allow`
abbrev pub is_active : LintLevel → Bool
is_active level.Allow = false
is_active level.Warn = true
is_active level.Deny = true

-- ---- which dependencies

-- the requirement has no comparators, so every version meets it
unfoldable pub is_wildcard : Declared → Bool
is_wildcard d = length d.declaration.req == 0

abbrev pub is_dev : DepKind → Bool
is_dev kind.Normal = false
is_dev kind.Dev = true
is_dev kind.Build = false

-- where the policy allows paths, a wildcard that comes from no registry is allowed in a crate that is published
-- nowhere, and in any crate as a dev dependency
unfoldable pub is_allowed_path : Policy → Graph → Crate → Declared → Bool
is_allowed_path p g c d = p.allow_wildcard_paths
    && (not (option_map_or is_registry (crate_at g d.child) false) && (is_private [] c || is_dev d.declaration.kind))

-- a wildcard is checked unless the crate depends on itself by it, or it is an allowed path
unfoldable pub is_active_in : Policy → Graph → Crate → Declared → Bool
is_active_in p g c d = is_wildcard d && (not (d.child == c.place) && not (is_allowed_path p g c d))

-- the wildcards of a manifest that are checked
unfoldable pub wildcards_in : Policy → Graph → Crate → Manifest → List Declared
wildcards_in p g c m = filter (is_active_in p g c) m.deps

-- a crate is checked for wildcards that counts, comes from no git repository, matches no skip and is in no skipped tree
unfoldable pub is_asked : Policy → Facts → Crate → Bool
is_asked p facts c = facts.counts c
    && (not (is_marked p c) && (not (is_in_skipped_tree p facts c) && not (is_git_source c)))

-- the wildcards of a crate that is checked for them, where its manifest was read
unfoldable pub wildcards_of : Policy → Graph → Facts → View → Crate → List Declared
wildcards_of p g facts view c =
    if is_asked p facts c then option_map_or (wildcards_in p g c) (manifest_of view c) [] else []

-- ---- keys

unfoldable pub wildcard_keys_of : Policy → Graph → Facts → View → Crate → List Key
wildcard_keys_of p g facts view c = if length (wildcards_of p g facts view c) == 0 then []
    else crate_key code.Wildcard c.place no_span ∷ []

abbrev pub wildcard_keys : Policy → Graph → Facts → View → List Key
wildcard_keys p g facts view =
    if is_active p.wildcards then flat_map (wildcard_keys_of p g facts view) g.crates else []

-- a declaration says that the workspace declares the dependency
unfoldable pub is_shared : Declared → Bool
is_shared d = option_map_or (λ flag. flag.value) d.workspace false

-- the crate that a shared declaration resolves to has no shared entry
unfoldable pub is_unresolved : View → Declared → Bool
is_unresolved view d = is_shared d && is_none (shared_at view d.child)

unfoldable pub unresolved_key : Crate → Declared → Key
unresolved_key c d = crate_key code.UnresolvedWorkspaceDependency c.place d.key

unfoldable pub unresolved_keys_of : Policy → Graph → Facts → View → Crate → List Key
unresolved_keys_of p g facts view c =
    map (unresolved_key c) (filter (is_unresolved view) (wildcards_of p g facts view c))

abbrev pub unresolved_keys : Policy → Graph → Facts → View → List Key
unresolved_keys p g facts view =
    if is_active p.wildcards then flat_map (unresolved_keys_of p g facts view) g.crates else []

-- ---- messages

-- the span of a declaration's requirement, or of its whole value
abbrev pub version_span : Declared → Span
version_span d = option_map_or (λ version. version.span) d.version_req d.value

abbrev pub shared_span : WorkspaceEntry → Span
shared_span e = option_map_or (λ version. version.span) e.version e.value

-- the label at a shared entry, in the workspace's manifest
abbrev pub workspace_label : ℕ → WorkspaceEntry → List Label
workspace_label file e = secondary file (shared_span e) (codes "workspace dependency") ∷ []

abbrev pub workspace_label_at : View → ℕ → WorkspaceEntry → List Label
workspace_label_at view place e = option_map_or (λ file. workspace_label file e) view.workspace []

unfoldable pub shared_labels : View → Declared → List Label
shared_labels view d =
    if is_shared d then option_map_or (workspace_label_at view d.child) (shared_at view d.child) [] else []

unfoldable pub wildcard_label : ℕ → Declared → Label
wildcard_label file d = primary file (version_span d) (codes "wildcard dependency")

unfoldable pub labels_of_wildcard : View → ℕ → Declared → List Label
labels_of_wildcard view file d = wildcard_label file d ∷ shared_labels view d

unfoldable pub wildcard_labels_in : Policy → Graph → View → Crate → Manifest → List Label
wildcard_labels_in p g view c m = flat_map (labels_of_wildcard view m.file) (wildcards_in p g c m)

unfoldable pub wildcard_labels_of : Policy → Graph → View → Crate → List Label
wildcard_labels_of p g view c = option_map_or (wildcard_labels_in p g view c) (manifest_of view c) []

unfoldable pub wildcard_labels : Policy → Graph → View → Key → List Label
wildcard_labels p g view key = option_map_or (wildcard_labels_of p g view) (crate_at g key.place) []

abbrev pub dependency_word : ℕ → List ℕ
dependency_word count = if count == 1 then codes "dependency" else codes "dependencies"

unfoldable pub paths_sentence : List ℕ
paths_sentence = codes
    ". allow-wildcard-paths is enabled, but does not apply to public crates as crates.io disallows path dependencies."

abbrev pub paths_note : Policy → List ℕ
paths_note p = if p.allow_wildcard_paths then paths_sentence else []

-- the message counts all labels
unfoldable pub wildcard_message : Policy → Graph → ℕ → ℕ → List ℕ
wildcard_message p g place count = codes "found " ++ (decimal count ++ (codes " wildcard " ++ (dependency_word count
    ++ (codes " for crate '" ++ (crate_name_at g place ++ (codes "'" ++ paths_note p))))))

unfoldable pub wildcard_diag : Policy → Graph → View → Key → Message
wildcard_diag p g view key = plainly (severity_of p.wildcards)
    (wildcard_message p g key.place (length (wildcard_labels p g view key)))
    (wildcard_labels p g view key)
    (kid_at g key.place)

-- the declaration with the span of its key
abbrev pub declared_at : Span → Manifest → Option Declared
declared_at span m = find (λ d. same_span d.key span) m.deps

-- the labels at the flag that says that the workspace declares the dependency, and at the value
unfoldable pub unresolved_labels_of_dep : ℕ → Declared → List Label
unresolved_labels_of_dep file d =
    option_map_or (λ flag. primary file flag.span (codes "usage of workspace dependency") ∷ []) d.workspace []
    ++ secondary file d.value [] ∷ []

unfoldable pub unresolved_labels_in : Span → Manifest → List Label
unresolved_labels_in span m = option_map_or (unresolved_labels_of_dep m.file) (declared_at span m) []

unfoldable pub unresolved_labels : Graph → View → Key → List Label
unresolved_labels g view key =
    option_map_or (unresolved_labels_in key.entry) (option_and_then (manifest_of view) (crate_at g key.place)) []

unfoldable pub unresolved_diag : Graph → View → Key → Message
unresolved_diag g view key = plainly severity.Bug (codes "failed to resolve a workspace dependency")
    (unresolved_labels g view key)
    (kid_at g key.place)
