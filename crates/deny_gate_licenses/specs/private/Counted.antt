-- The places of the crates that count.
use Rattle.std.specs.Prelude.{◌≡◌, ◌∷◌, ℕ, Bool, List, [], filter, if◌then◌else◌, map}
use Rattle.deny_spec.specs.Graph.{Crate, Graph}
use Rattle.deny_rules_match.specs.Marks.{AreCounted, mark_at, marked}

abbrev pub place_if : List Bool → ℕ → List ℕ
place_if marks place = if mark_at marks place then place ∷ [] else []

-- the places of the marked crates, where the marked ones are those that count
pub record AreCountedPlaces (include_dev : Bool) (g : Graph) (places : List ℕ) : Type 0 where
  pub marks : List Bool
  pub counted : AreCounted include_dev g marks
  pub are : places ≡ map (λ (c : Crate). c.place) (filter (marked marks) g.crates)
