-- The entries of `workspace.dependencies`, with the patches that replace them.
use Rattle.std.specs.Prelude.{ℕ, Bool, true, false, List, [], Option, Some, None, filter_map, option_and_then}
use Rattle.std.specs.Prelude.{option_map, if◌then◌else◌}
use Rattle.std.specs.Option.{option_map_or}
use Rattle.deny_base.specs.declared.span.Span.{Span}
use Rattle.deny_toml.specs.Key.{Key}
use Rattle.deny_toml.specs.value.Table.{Table}
use Rattle.deny_toml.specs.value.Value.{Value}
use Rattle.deny_toml.specs.Value.{entries_in, span_in}
use Rattle.deny_toml.specs.Calls.{entry_at, table_in}
use Rattle.deny_spans_workspace.specs.Origin.{value_at_key}
use Rattle.deny_spans_workspace.specs.DepSpec.{DepSpec, dep_spec_in}
use Rattle.deny_spans_workspace.specs.declared.manifest_key.ManifestKey.{ManifestKey}
use Rattle.deny_spans_workspace.specs.declared.manifest_key.ManifestKey.TheVariants as key
use Rattle.deny_spans_workspace.specs.declared.origin.Origin.{Origin}
use Rattle.deny_spans_workspace.specs.declared.origin.Origin.TheVariants.{Git, Path, Registry}

-- an entry, or the patch that replaces it
pub record SharedEntry : Type 0 where
  -- the name of its key
  pub name : List ℕ
  -- the span of the key: the patch's, where a patch replaces the entry
  pub key : Span
  -- the span of the entry's own value
  pub value : Span
  pub spec : DepSpec
  -- the span of the entry's own key, where a patch replaces the entry
  pub patched : Option Span

-- the table below two keys, one in the other
abbrev pub table_below : ManifestKey → ManifestKey → Value → Option Table
table_below outer inner tree = option_and_then table_in (option_and_then (value_at_key inner) (value_at_key outer tree))

-- the keys of a table with their values; none where there is no table
abbrev pub keys_in : Option Table → List (Key × Value)
keys_in table = option_map_or entries_in table []

-- the entries of `workspace.dependencies`, in byte order of their keys
abbrev pub dependencies_in : Value → List (Key × Value)
dependencies_in tree = keys_in (table_below key.Workspace key.Dependencies tree)

-- the entries of `patch.crates-io`
abbrev pub patches_in : Value → List (Key × Value)
patches_in tree = keys_in (table_below key.Patch key.CratesIo tree)

-- a registry that has no name is crates.io, whose crates can be patched
abbrev pub may_be_patched : Origin → Bool
may_be_patched (Registry name) = option_map_or (λ name. false) name true
may_be_patched (Path path) = false
may_be_patched (Git url reference) = false

-- the patch of a key and its value, with the span of the key; none where the value is passed over
abbrev pub patch_from : Key × Value → Option (Span × DepSpec)
patch_from patch = option_map (λ spec. (patch.0.span, spec)) (dep_spec_in patch.1)

unfoldable pub patch_of : List (Key × Value) → List ℕ → Option (Span × DepSpec)
patch_of patches name = option_and_then patch_from (entry_at name patches)

-- the entry, or the patch of the same name that replaces it
abbrev pub replaced_by : Option (Span × DepSpec) → Key → Span → DepSpec → SharedEntry
replaced_by None key value spec = record {
  name = key.name;
  key = key.span;
  value = value;
  spec = spec;
  patched = None;
}
replaced_by (Some patch) key value spec = record {
  name = key.name;
  key = patch.0;
  value = value;
  spec = patch.1;
  patched = Some key.span;
}

unfoldable pub patched_entry : List (Key × Value) → Key → Span → DepSpec → SharedEntry
patched_entry patches key value spec =
    replaced_by (if may_be_patched spec.origin then patch_of patches key.name else None) key value spec

-- the entry of a key and its value, if it is not passed over
abbrev pub entry_of : List (Key × Value) → Key × Value → Option SharedEntry
entry_of patches e = option_map (patched_entry patches e.0 (span_in e.1)) (dep_spec_in e.1)

unfoldable pub entries_of : List (Key × Value) → List (Key × Value) → List SharedEntry
entries_of patches dependencies = filter_map (entry_of patches) dependencies
