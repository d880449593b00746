-- The crates above duplicates.
use Rattle.std.specs.Prelude.{◌≡◌, ◌<◌, ◌↔◌, ℕ, IsTrue, List, Option, length, Contains}
use Rattle.deny_base_lists.specs.Walk.{AreThose, has_distance}
use Rattle.deny_spec.specs.Graph.{Graph}
use Rattle.deny_rules_dup_edges.specs.Above.{HasChain}

-- a chain leads from a place to one of these
pub record LeadsToOne (g : Graph) (places : List ℕ) (from : ℕ) : Type 0 where
  pub place : ℕ
  pub is_one : Contains places place
  pub leads : HasChain g from place

-- the crates that a chain leads from to one of these places: they alone have distances
pub record AreAbove (g : Graph) (places : List ℕ) (distances : List (Option ℕ)) (reached : List ℕ) : Type 0 where
  pub long : length distances ≡ length g.crates
  pub those : AreThose distances reached
  pub each : (place : ℕ) → place < length g.crates → IsTrue (has_distance distances place) ↔ LeadsToOne g places place
