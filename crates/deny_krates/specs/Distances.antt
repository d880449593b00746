-- How far crates are from roots, and above targets, along edges of all kinds.
use Rattle.std.specs.Prelude.{◌≡◌, ◌<◌, ◌≤◌, ℕ, List, Option, None, Some, length, Contains}
use Rattle.deny_base_lists.specs.Walk.{distance_at}
use Rattle.deny_spec.specs.Counting.{Chain}
use Rattle.deny_spec.specs.Graph.{Graph}

-- a chain of this many edges leads to the place from a root
pub record IsLedFromRoot (g : Graph) (roots : List ℕ) (place : ℕ) (edges : ℕ) : Type 0 where
  pub root : ℕ
  pub is_root : Contains roots root
  pub chain : Chain g.edges root place edges

-- the distance is the least number of edges that lead to the place from a root; a place that no root leads to has
-- none
abbrev pub IsCrateDistance : Graph → List ℕ → ℕ → Option ℕ → Type 0
IsCrateDistance g roots place None = (n : ℕ) → IsLedFromRoot g roots place n → ⊥
IsCrateDistance g roots place (Some d) = IsLedFromRoot g roots place d
    × ((n : ℕ) → IsLedFromRoot g roots place n → d ≤ n)

-- the distance of each crate of the graph
pub record AreCrateDistances (g : Graph) (roots : List ℕ) (distances : List (Option ℕ)) : Type 0 where
  pub long : length distances ≡ length g.crates
  pub each : (place : ℕ) → place < length g.crates → IsCrateDistance g roots place (distance_at distances place)

-- a chain of this many edges leads from the place to a target
pub record LeadsToTarget (g : Graph) (targets : List ℕ) (place : ℕ) (edges : ℕ) : Type 0 where
  pub target : ℕ
  pub is_target : Contains targets target
  pub chain : Chain g.edges place target edges

-- the distance is the least number of edges that lead from the place to a target; a place that leads to no target has
-- none
abbrev pub IsDependentDistance : Graph → List ℕ → ℕ → Option ℕ → Type 0
IsDependentDistance g targets place None = (n : ℕ) → LeadsToTarget g targets place n → ⊥
IsDependentDistance g targets place (Some d) = LeadsToTarget g targets place d
    × ((n : ℕ) → LeadsToTarget g targets place n → d ≤ n)

-- the distance of each crate of the graph above the targets
pub record AreDependentDistances (g : Graph) (targets : List ℕ) (distances : List (Option ℕ)) : Type 0 where
  pub long : length distances ≡ length g.crates
  pub each : (place : ℕ) → place < length g.crates
      → IsDependentDistance g targets place (distance_at distances place)
