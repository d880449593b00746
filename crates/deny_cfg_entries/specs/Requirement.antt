-- Version requirements, as semver reads them.
use Rattle.std.specs.Prelude.{◌≡◌, option_map, ℕ, Bool, true, List, Option, None, Some, is_some, map, Result, Ok, Err}
use Rattle.std.specs.Prelude.{if◌then◌else◌}
use Rattle.semver.specs.Parse.{req_of, Held}
use Rattle.semver.specs.Identifiers.{comparator_view}
use Rattle.semver.specs.declared.error.Error.{Error}
use Rattle.semver.specs.declared.VersionReq.{VersionReq}

-- the comparators of a requirement, as contracts see them
abbrev pub held_in : VersionReq → List Held
held_in requirement = map comparator_view requirement.comparators.items

abbrev pub held_of : Result (List Held) Error → Option (List Held)
held_of (Ok comparators) = Some comparators
held_of (Err e) = None

-- the comparators that semver reads in a text; none where the text is no requirement
unfoldable pub requirement_in : List ℕ → Option (List Held)
requirement_in text = held_of (req_of text)

-- there is neither a requirement nor a text, or the requirement is what semver reads in the text
abbrev pub IsReadIn : Option (List ℕ) → Option VersionReq → Type 0
IsReadIn text requirement = option_map (λ r. Some (held_in r)) requirement ≡ option_map requirement_in text

-- whether there is no text, or semver reads a requirement in it
abbrev pub is_readable : Option (List ℕ) → Bool
is_readable None = true
is_readable (Some text) = is_some (requirement_in text)

-- the text itself, where semver reads a requirement in it
unfoldable pub requirement_text : List ℕ → Option (List ℕ)
requirement_text text = if is_readable (Some text) then Some text else None
