-- The change by one more place while distances are set.
use Rattle.std.specs.Prelude.{◌++◌, ◌∷◌, ℕ, List, [], Option, Some, slice_set, if◌then◌else◌}
use Rattle.deny_base_lists.specs.Walk.{has_distance}

-- the distances, and the places in the order in which they were reached, after one more place
abbrev pub reached : ℕ → List (Option ℕ) × List ℕ → ℕ → List (Option ℕ) × List ℕ
reached distance s place = if has_distance s.0 place then s else (
  slice_set s.0 place (Some distance),
  s.1 ++ place ∷ [],
)
