-- The states that are marked at one index.
use Rattle.std.specs.Prelude.{ℕ, suc, ◌≡◌, ◌⊎◌, ◌↔◌, List, [], ◌∷◌, ◌++◌, length, Bool, true, false, Contains, get_or}

-- the number of marks
abbrev pub marks_in : List Bool → ℕ
marks_in [] = 0
marks_in (true ∷ marks) = suc (marks_in marks)
marks_in (false ∷ marks) = marks_in marks

-- The order lists exactly the states with a mark, each once.
pub record IsMarked (order : List ℕ) (marks : List Bool) : Type 0 where
  pub each : (number : ℕ) → Contains order number ↔ (get_or marks number false ≡ true)
  pub once : length order ≡ marks_in marks

-- States may have been appended.
pub record Extends (old new : List ℕ) : Type 0 where
  pub more : List ℕ
  pub whole : new ≡ old ++ more

-- The state is marked, and no other was added.
pub record Marks (number : ℕ) (old new : List ℕ) : Type 0 where
  pub extends : Extends old new
  pub is_there : Contains new number
  pub only : (other : ℕ) → Contains new other → Contains old other ⊎ (other ≡ number)

-- The state is marked where the test holds, and no other was added.
pub record MarksIf (test : Bool) (number : ℕ) (old new : List ℕ) : Type 0 where
  pub extends : Extends old new
  pub is_there : test ≡ true → Contains new number
  pub only : (other : ℕ) → Contains new other → Contains old other ⊎ ((test ≡ true) × (other ≡ number))
