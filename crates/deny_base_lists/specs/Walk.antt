-- Chains of edges in a graph of places, the distances of places from roots, and the places that are reached.
use Rattle.std.specs.Prelude.{◌≡◌, ◌≢◌, ◌<◌, ◌≤◌, ◌+◌, ◌↔◌, ℕ, zero, suc, Bool, false, List, Option, None, Some, All}
use Rattle.std.specs.Prelude.{AllPairs, Contains, IsTrue, is_some, length, replicate, slice_index_or, sum_by}

-- a chain of n edges leads from a place to another, each edge beginning where the one before it ends
abbrev pub Chain : (ℕ → ℕ → Type 0) → ℕ → ℕ → ℕ → Type 0
Chain leads a b zero = a ≡ b
Chain leads a b (suc n) = (c : ℕ) × leads a c × Chain leads c b n

-- edges from a place below the count lead to places below it alone
abbrev pub StaysBelow : (ℕ → ℕ → Type 0) → ℕ → Type 0
StaysBelow leads count = (a b : ℕ) → a < count → leads a b → b < count

-- a chain of n edges leads to the place from a root
pub record IsLed (leads : ℕ → ℕ → Type 0) (roots : List ℕ) (place : ℕ) (steps : ℕ) : Type 0 where
  pub root : ℕ
  pub is_root : Contains roots root
  pub chain : Chain leads root place steps

-- a chain of any length leads to the place from a root
pub record IsReached (leads : ℕ → ℕ → Type 0) (roots : List ℕ) (place : ℕ) : Type 0 where
  pub steps : ℕ
  pub led : IsLed leads roots place steps

-- the distance is the least number of edges of a chain to the place, and none where there is no chain
abbrev pub IsDistance : (ℕ → ℕ → Type 0) → List ℕ → ℕ → Option ℕ → Type 0
IsDistance leads roots place None = (n : ℕ) → IsLed leads roots place n → ⊥
IsDistance leads roots place (Some d) = IsLed leads roots place d × ((n : ℕ) → IsLed leads roots place n → d ≤ n)

abbrev pub distance_at : List (Option ℕ) → ℕ → Option ℕ
distance_at distances place = slice_index_or distances place None

abbrev pub has_distance : List (Option ℕ) → ℕ → Bool
has_distance distances place = is_some (distance_at distances place)

-- the distance of each place
pub record AreDistances (leads : ℕ → ℕ → Type 0) (count : ℕ) (roots : List ℕ)
    (distances : List (Option ℕ)) : Type 0 where
  pub long : length distances ≡ count
  pub each : (place : ℕ) → place < count → IsDistance leads roots place (distance_at distances place)

abbrev pub is_marked : List Bool → ℕ → Bool
is_marked marks place = slice_index_or marks place false

-- marks for the places to which chains lead
pub record AreMarks (leads : ℕ → ℕ → Type 0) (count : ℕ) (roots : List ℕ) (marks : List Bool) : Type 0 where
  pub long : length marks ≡ count
  pub each : (place : ℕ) → IsTrue (is_marked marks place) ↔ IsReached leads roots place

-- no place has a distance
abbrev pub AreUnset : ℕ → List (Option ℕ) → Type 0
AreUnset count distances = distances ≡ replicate count None

-- the places that have a distance, each once
pub record AreThose (distances : List (Option ℕ)) (reached : List ℕ) : Type 0 where
  pub each : (place : ℕ) → IsTrue (has_distance distances place) ↔ Contains reached place
  pub once : AllPairs ◌≢◌ reached

-- at most one step for each of these places and one for each of its neighbours
abbrev pub TakesInStep : (ℕ → ℕ) → List ℕ → ℕ → ℕ → Type 0
TakesInStep degree places before after = after ≤ before + length places + sum_by degree places

-- at most the steps of some of the places that are reached, each place counted once
pub record TakesInStepWithReached (leads : ℕ → ℕ → Type 0) (roots : List ℕ) (degree : ℕ → ℕ)
    (before after : ℕ) : Type 0 where
  pub places : List ℕ
  pub once : AllPairs ◌≢◌ places
  pub reached : All (IsReached leads roots) places
  pub steps : TakesInStep degree places before after
