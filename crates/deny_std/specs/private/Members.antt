-- The members of the workspace, as marks.
use Rattle.std.specs.Prelude.{◌≡◌, ◌<◌, ◌==◌, ◌||◌, ℕ, Bool, false, List, length, slice_index_or}
use Rattle.std.specs.List.{list_any}
use Rattle.deny_spec.specs.Graph.{Graph}

abbrev pub is_among : List ℕ → ℕ → Bool
is_among members place = list_any (λ member. member == place) members

-- the marks at the places that pass a test are set in addition
pub record GainsMarks (test : ℕ → Bool) (old new : List Bool) : Type 0 where
  pub long : length new ≡ length old
  pub each : (place : ℕ) → place < length old
      → slice_index_or new place false ≡ (slice_index_or old place false || test place)

-- a mark for each place, set for those of members
pub record AreMemberMarks (g : Graph) (marks : List Bool) : Type 0 where
  pub long : length marks ≡ length g.crates
  pub each : (place : ℕ) → place < length g.crates → slice_index_or marks place false ≡ is_among g.members place
