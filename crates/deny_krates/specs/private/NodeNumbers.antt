-- The numbers of nodes.
use Rattle.std.specs.Prelude.{◌≡◌, ◌<◌, ◌≤◌, ◌+◌, ℕ, List, [], ◌∷◌, Some, length, slice_get}
use Rattle.deny_spec.specs.Graph.{Crate, Graph}

-- for each of consecutive crates the number of the node of its first enabled feature
abbrev pub features_from : ℕ → List Crate → List ℕ
features_from first [] = []
features_from first (c ∷ cs) = first ∷ features_from (first + length c.enabled) cs

abbrev pub first_features_of : Graph → List ℕ
first_features_of g = features_from (length g.crates) g.crates

-- the index of the last of ascending numbers that is not above another
pub record IsLastUpTo (starts : List ℕ) (number place : ℕ) : Type 0 where
  pub start : ℕ
  pub here : slice_get starts place ≡ Some start
  pub up_to : start ≤ number
  pub next : (later after : ℕ) → place < later → slice_get starts later ≡ Some after → number < after
