-- The specs that the policy skips: the first version of every tenth name.
use Rattle.std.specs.Prelude.{◌++◌, ◌==◌, ◌%◌, Bool, List, codes, filter, map, ℕ}
use Rattle.deny_cli_generator.specs.Made.{below, name_of}
use Rattle.deny_cli_generator.specs.PolicyText.{name_count}

-- the spec of the first version of a name, by the name's number
unfoldable pub spec_text : ℕ → List ℕ
spec_text number = name_of number ++ codes "@=1.0.0"

abbrev pub is_skipped : ℕ → Bool
is_skipped number = number % 10 == 0

abbrev pub specs_in : List ℕ → List (List ℕ)
specs_in numbers = map spec_text (filter is_skipped numbers)

-- the specs that are skipped in the policy for a number of crates
abbrev pub skipped_specs : ℕ → List (List ℕ)
skipped_specs crates = specs_in (below (name_count crates))
