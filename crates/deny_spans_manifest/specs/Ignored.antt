-- The kinds of dependencies that a member's manifest excludes from the search for duplicates.
use Rattle.std.specs.Prelude.{ℕ, ◌==◌, [], Bool, List, Option, codes, filter, filter_map, not, option_and_then}
use Rattle.std.specs.Prelude.{if◌then◌else◌}
use Rattle.std.specs.List.{list_any}
use Rattle.std.specs.Option.{option_map_or}
use Rattle.deny_base.specs.Edge.{kind_number}
use Rattle.deny_base.specs.declared.edge.DepKind.{DepKind}
use Rattle.deny_base.specs.declared.edge.DepKind.TheVariants.{Build, Dev, Normal}
use Rattle.deny_spans_manifest.specs.Written.{kinds}
use Rattle.deny_spec.specs.Graph.{Graph}
use Rattle.deny_spec.specs.Text.{same_text}
use Rattle.deny_toml.specs.Calls.{array_in, text_in, value_at_path}
use Rattle.deny_toml.specs.value.Value.{Value}

-- the word that a manifest lists for a kind
abbrev pub kind_word : DepKind → List ℕ
kind_word Normal = codes ""
kind_word Dev = codes "dev"
kind_word Build = codes "build"

-- the elements of `workspace-duplicates`, where it is an array
unfoldable pub duplicates_in : Value → Option (List Value)
duplicates_in tree =
    option_and_then array_in (value_at_path (codes "/package/metadata/cargo-deny/workspace-duplicates") tree)

-- the kinds that none of the words names
abbrev pub unnamed_in : List (List ℕ) → List DepKind
unnamed_in words = filter (λ kind. not (list_any (same_text (kind_word kind)) words)) kinds

-- the texts among the elements of a list; other elements are passed over
abbrev pub words_in : List Value → List (List ℕ)
words_in listed = filter_map text_in listed

-- the kinds that a manifest ignores: all but those that `workspace-duplicates` lists, and none where that is no array
unfoldable pub ignored_in : Value → List DepKind
ignored_in tree = option_map_or (λ listed. unnamed_in (words_in listed)) (duplicates_in tree) []

-- the kinds that the manifest of the crate at a place ignores: only a workspace member ignores any
unfoldable pub ignored_at : Graph → ℕ → Value → List DepKind
ignored_at g place tree = if list_any (λ member. member == place) g.members then ignored_in tree else []

-- whether a kind is in the list
unfoldable pub is_among : List DepKind → DepKind → Bool
is_among ignored kind = list_any (λ other. kind_number other == kind_number kind) ignored
