-- The range that a binary search has left.
use Rattle.std.specs.Prelude.{ℕ, ◌≡◌, ◌<◌, ◌≤◌, ◌+◌, List, length, Some, slice_get}
use Rattle.std.specs.Ordering.{nat_cmp}
use Rattle.std.specs.declared.cmp.Ordering.TheVariants.{Less}
use Rattle.std.specs.Cmp.Lexicographic.{slice_cmp}
use Rattle.deny_base_lists.specs.declared.search.Halving.{Halving}
use Rattle.deny_base_lists.specs.declared.search.Halving.TheVariants.{Found, Between}
use Rattle.deny_base_lists.specs.Search.{IsNamedAt}

-- the names before `low` are below the name, and those from `high` on above it
pub record IsBetween {T : Type 0} (name_of : T → List ℕ) (records : List T) (name : List ℕ)
    (low high : ℕ) : Type 0 where
  pub ordered : low ≤ high
  pub inside : high ≤ length records
  pub below : (i : ℕ) (named : T) → i < low → slice_get records i ≡ Some named
      → slice_cmp nat_cmp (name_of named) name ≡ Less
  pub above : (i : ℕ) (named : T) → high ≤ i → slice_get records i ≡ Some named
      → slice_cmp nat_cmp name (name_of named) ≡ Less

-- a comparison has left at most half of the range
pub record IsHalf {T : Type 0} (name_of : T → List ℕ) (records : List T) (name : List ℕ)
    (low high low' high' : ℕ) : Type 0 where
  pub between : IsBetween name_of records name low' high'
  pub half : high' + high' + low ≤ low' + low' + high
  pub fewer : high' + low < low' + high

-- a comparison has found the index, or left at most half of the range
abbrev pub IsHalved : {T : Type 0} → (T → List ℕ) → List T → List ℕ → ℕ → ℕ → Halving → Type 0
IsHalved name_of records name low high (Found index) = IsNamedAt name_of records name index
IsHalved name_of records name low high (Between low' high') = IsHalf name_of records name low high low' high'
