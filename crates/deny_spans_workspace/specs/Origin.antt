-- Where an entry says that its crate comes from.
use Rattle.std.specs.Prelude.{ℕ, Bool, List, Option, Some, None, is_some, option_and_then, option_map, if◌then◌else◌}
use Rattle.std.specs.Result.{result_ok}
use Rattle.url.specs.Parser.{parse_url}
use Rattle.url.specs.Parts.{Parts}
use Rattle.deny_krates.specs.source.GitSpec.{GitSpec}
use Rattle.deny_krates.specs.source.GitSpec.TheVariants as spec
use Rattle.deny_toml.specs.value.Value.{Value}
use Rattle.deny_toml.specs.Calls.{below_name, text_in}
use Rattle.deny_spans_workspace.specs.ManifestKey.{name_of}
use Rattle.deny_spans_workspace.specs.declared.manifest_key.ManifestKey.{ManifestKey}
use Rattle.deny_spans_workspace.specs.declared.manifest_key.ManifestKey.TheVariants as key
use Rattle.deny_spans_workspace.specs.declared.origin.Origin.{Origin}
use Rattle.deny_spans_workspace.specs.declared.origin.Origin.TheVariants.{Git, Path, Registry}
use Rattle.deny_spans_workspace.specs.declared.origin.DeclaredReference.{DeclaredReference}

abbrev pub value_at_key : ManifestKey → Value → Option Value
value_at_key key v = below_name (name_of key) v

-- whether a value is a table with the key, whatever the kind of the value there
abbrev pub has : ManifestKey → Value → Bool
has key v = is_some (value_at_key key v)

-- the text at a key; none where another kind stands there
abbrev pub text_at : ManifestKey → Value → Option (List ℕ)
text_at key v = option_and_then text_in (value_at_key key v)

abbrev pub refers_to : GitSpec → List ℕ → DeclaredReference
refers_to spec value = record { spec = spec; value = Some value }

-- the reference of a git source: the first of `rev`, `branch` and `tag` that the value has; none where that is no text
unfoldable pub reference_in : Value → Option DeclaredReference
reference_in v =
    if has key.Rev v then option_map (refers_to spec.Rev) (text_at key.Rev v)
    else (if has key.Branch v then option_map (refers_to spec.Branch) (text_at key.Branch v)
    else (if has key.Tag v then option_map (refers_to spec.Tag) (text_at key.Tag v)
    else Some (record { spec = spec.Any; value = None })))

-- the address that a text is, if it is one
abbrev pub address_of : List ℕ → Option Parts
address_of text = result_ok (parse_url None text)

abbrev pub repository : Option DeclaredReference → Parts → Option Origin
repository reference url = option_map (Git url) reference

-- the repository at `git` with its reference; none where one of them does not parse
unfoldable pub repository_in : Value → Option Origin
repository_in v =
    option_and_then (repository (reference_in v)) (option_and_then address_of (text_at key.Git v))

abbrev pub named_registry : List ℕ → Origin
named_registry name = Registry (Some name)

-- an entry with a requirement alone, as a text or as `version`, is of crates.io
abbrev pub unnamed_registry : Value → Option Origin
unnamed_registry v = if has key.Version v then Some (Registry None)
    else (if is_some (text_in v) then Some (Registry None) else None)

-- the source of an entry: the first of `registry`, `path`, `git` and `version` that it has, if that parses
unfoldable pub origin_in : Value → Option Origin
origin_in v =
    if has key.Registry v then option_map named_registry (text_at key.Registry v)
    else (if has key.Path v then option_map Path (text_at key.Path v)
    else (if has key.Git v then repository_in v else unnamed_registry v))
