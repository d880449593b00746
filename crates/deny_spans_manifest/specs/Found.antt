-- What the value of a dependency declares.
use Rattle.std.specs.Prelude.{ℕ, Bool, List, Option, codes, map, option_and_then, option_map, unwrap_or}
use Rattle.std.specs.Result.{result_ok}
use Rattle.semver.specs.Identifiers.{comparator_view}
use Rattle.semver.specs.Parse.{Held, req_of}
use Rattle.semver.specs.declared.VersionReq.{VersionReq}
use Rattle.deny_base.specs.declared.span.Spanned.{Spanned}
use Rattle.deny_toml.specs.Calls.{below_name, bool_in, text_in}
use Rattle.deny_toml.specs.Value.{span_in}
use Rattle.deny_toml.specs.value.Value.{Value}

-- what a reader finds in a value, with the value's span
abbrev pub spanned_in : {A : Type 0} → (Value → Option A) → Value → Option (Spanned A)
spanned_in read v = option_map (λ thing. record { value = thing; span = span_in v }) (read v)

-- the flag at `workspace`: whether the workspace declares the dependency
unfoldable pub workspace_of : Value → Option (Spanned Bool)
workspace_of v = option_and_then (spanned_in bool_in) (below_name (codes "workspace") v)

-- the text at `package`: the name of the crate, where it differs from the key
unfoldable pub rename_of : Value → Option (Spanned (List ℕ))
rename_of v = option_and_then (spanned_in text_in) (below_name (codes "package") v)

-- the comparators that semver reads in a text
unfoldable pub requirement_in : Value → Option (List Held)
requirement_in v = option_and_then (λ text. result_ok (req_of text)) (text_in v)

-- the value that holds the requirement: that at `version`, or the whole
unfoldable pub versioned : Value → Value
versioned v = unwrap_or (below_name (codes "version") v) v

-- the requirement on the version of the dependency
unfoldable pub version_of : Value → Option (Spanned (List Held))
version_of v = spanned_in requirement_in (versioned v)

-- the comparators of a requirement
abbrev pub requirement_read : VersionReq → List Held
requirement_read r = map comparator_view r.comparators.items

abbrev pub held_spanned : Spanned VersionReq → Spanned (List Held)
held_spanned r = record { value = requirement_read r.value; span = r.span }
