-- The features of a table by their numbers, and the steps along plain entries.
use Rattle.std.specs.Prelude.{◌≡◌, ◌↔◌, ℕ, IsTrue, is_some, List, [], Option, None, Some, Contains, filter, filter_map}
use Rattle.std.specs.Prelude.{map, slice_get, slice_index_or, if◌then◌else◌}
use Rattle.std.specs.FinMap as finite
use Rattle.std.specs.Option.{option_map_or}
use Rattle.deny_base_lists.specs.TextMap.{TextFinMap}
use Rattle.deny_spec.specs.Policy as policy
use Rattle.deny_spec_report.specs.Features.{is_plain}

-- the features that a feature enables; none where the table does not have it
abbrev pub enables : TextFinMap (List (List ℕ)) → List ℕ → List (List ℕ)
enables features name = option_map_or (λ entries. entries) (finite.get features name) []

abbrev pub plain_of : TextFinMap (List (List ℕ)) → List ℕ → List (List ℕ)
plain_of features name = filter is_plain (enables features name)

-- the names are exactly the features of the table
pub record AreNames (features : TextFinMap (List (List ℕ))) (names : List (List ℕ)) : Type 0 where
  pub each : (name : List ℕ) → Contains names name ↔ IsTrue (is_some (finite.get features name))

-- each name has a number, which is its index
pub record AreNumbers (names : List (List ℕ)) (numbers : TextFinMap ℕ) : Type 0 where
  pub whole : (name : List ℕ) → Contains names name → IsTrue (is_some (finite.get numbers name))
  pub sound : (name : List ℕ) (number : ℕ) → finite.get numbers name ≡ Some number → slice_get names number ≡ Some name

-- the number of a plain entry that is a feature of the table
unfoldable pub plain_number : TextFinMap ℕ → List ℕ → Option ℕ
plain_number numbers entry = if is_plain entry then finite.get numbers entry else None

-- the numbers of the features that a feature leads to
unfoldable pub row_of : TextFinMap (List (List ℕ)) → TextFinMap ℕ → List ℕ → List ℕ
row_of features numbers name = filter_map (plain_number numbers) (enables features name)

-- a step leads from one number to another
abbrev pub leads_by : TextFinMap (List (List ℕ)) → TextFinMap ℕ → List (List ℕ) → ℕ → ℕ → Type 0
leads_by features numbers names n = Contains (slice_index_or (map (row_of features numbers) names) n [])

-- the numbers of those of the listed features that the table has
abbrev pub roots_by : TextFinMap ℕ → List policy.SpannedText → List ℕ
roots_by numbers listed = filter_map (λ w. finite.get numbers w.value) listed
