-- A bucket while names are put into it and looked up.
use Rattle.std.specs.Prelude.{ℕ, ◌≡◌, List, [], ◌∷◌, ◌++◌, Some, slice_get, slice_set, insert}
use Rattle.deny_base_lists.specs.Search as by_name
use Rattle.deny_cfg_index.specs.declared.bucket.Named.{Named}
use Rattle.deny_cfg_index.specs.Bucket.{name_of, IsNamedAt}

abbrev pub numbers_of : Named → List ℕ
numbers_of named = named.numbers

-- the names before this index are below the name, and the others above it
abbrev pub IsGap : List Named → List ℕ → ℕ → Type 0
IsGap = by_name.IsGap name_of

-- the name at this index has one more number
pub record IsNumbered (old : List Named) (index number : ℕ) (new : List Named) : Type 0 where
  pub named : Named
  pub at : slice_get old index ≡ Some named
  pub whole : new ≡ slice_set old index (record { name = named.name; numbers = named.numbers ++ number ∷ [] })

-- the number was added to its name, or with a new one
pub data IsExtended (old : List Named) (name : List ℕ) (number : ℕ) : List Named → Type 0 where
  numbered : {new : List Named} (index : ℕ) → IsNamedAt old name index → IsNumbered old index number new
      → IsExtended old name number new
  inserted : {new : List Named} (index : ℕ) → IsGap old name index
      → new ≡ insert old index (record { name = name; numbers = number ∷ [] }) → IsExtended old name number new
