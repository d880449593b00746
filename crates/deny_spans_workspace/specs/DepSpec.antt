-- What the value of an entry, or of a patch, specifies.
use Rattle.std.specs.Prelude.{ℕ, ◌||◌, Bool, not, List, Option, None, is_some, option_map, if◌then◌else◌}
use Rattle.semver.specs.Parse.{Held}
use Rattle.deny_base.specs.declared.span.Spanned.{Spanned}
use Rattle.deny_toml.specs.value.Value.{Value}
use Rattle.deny_toml.specs.Calls.{text_in}
use Rattle.deny_spans_manifest.specs.Found.{rename_of, version_of}
use Rattle.deny_spans_workspace.specs.Origin.{has, origin_in}
use Rattle.deny_spans_workspace.specs.declared.manifest_key.ManifestKey.TheVariants as key
use Rattle.deny_spans_workspace.specs.declared.origin.Origin.{Origin}

pub record DepSpec : Type 0 where
  pub origin : Origin
  pub version : Option (Spanned (List Held))
  -- the name of the package, where it differs from the key
  pub rename : Option (Spanned (List ℕ))

-- whether the requirement parses, where there is one: the value itself as a text, or its `version`
abbrev pub is_readable : Value → Bool
is_readable v = is_some (version_of v) || not (is_some (text_in v) || has key.Version v)

abbrev pub dep_spec_from : Value → Origin → DepSpec
dep_spec_from v origin = record { origin = origin; version = version_of v; rename = rename_of v }

-- the specification of a value; none where it is passed over: it has no source, or its source, its reference or its
-- requirement is of another kind or does not parse
unfoldable pub dep_spec_in : Value → Option DepSpec
dep_spec_in v = if is_readable v then option_map (dep_spec_from v) (origin_in v) else None
