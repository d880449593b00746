-- Prefixes, and lists that gain one at their ends.
use Rattle.std.specs.Prelude.{◌≡◌, ◌++◌, ◌⊎◌, ℕ, List, take}

-- a list is a prefix of a whole; it may be empty
abbrev pub IsPrefix : {T : Type 0} → List T → List T → Type 0
IsPrefix whole part = (count : ℕ) × (part ≡ take count whole)

-- the new list is the old one with more at its end, of which the fact is true
pub record Gains {T : Type 0} (P : List T → Type 0) (old new : List T) : Type 0 where
  pub more : List T
  pub behind : new ≡ old ++ more
  pub are : P more

-- the new list is the old one with a prefix of this list at its end; the prefix may be empty
pub record GainsPrefix {T : Type 0} (whole old new : List T) : Type 0 where
  pub count : ℕ
  pub behind : new ≡ old ++ take count whole

-- the list stays as it was, or gains a prefix of some list of which the fact is true
abbrev pub GainsPrefixOf : {T : Type 0} → (List T → Type 0) → List T → List T → Type 0
GainsPrefixOf P old new = (new ≡ old) ⊎ ((whole : _) × P whole × GainsPrefix whole old new)
