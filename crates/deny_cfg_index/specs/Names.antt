-- The numbers of names, and the steps that it takes to find them.
use Rattle.std.specs.Prelude.{ℕ, ◌≡◌, ◌<◌, ◌≤◌, ◌+◌, ◌^◌, ◌↔◌, List, length, Some, Contains, slice_get}
use Rattle.std.specs.List.Sorted.{IsStrictlyIncreasing}
use Rattle.deny_base_lists.specs.Prefix.{IsPrefix}

-- the name has this number
abbrev pub HasNumber : List (List ℕ) → List ℕ → ℕ → Type 0
HasNumber names name i = slice_get names i ≡ Some name

-- the numbers of exactly the names that are equal to this one, ascending
pub record AreNumbers (names : List (List ℕ)) (name numbers : List ℕ) : Type 0 where
  pub ascending : IsStrictlyIncreasing numbers
  pub exact : (i : ℕ) → Contains numbers i ↔ HasNumber names name i

-- a prefix of the numbers of a name
pub record AreFirstNumbers (names : List (List ℕ)) (name numbers : List ℕ) : Type 0 where
  pub whole : List ℕ
  pub are : AreNumbers names name whole
  pub first : IsPrefix whole numbers

-- the list has every name of the index
abbrev pub HasNames : List (List ℕ) → List (List ℕ) → Type 0
HasNames names listed = (name : List ℕ) → Contains names name → Contains listed name

-- the list has the number of every name that is equal to this one
abbrev pub HasHits : List (List ℕ) → List ℕ → List ℕ → Type 0
HasHits names name hits = (i : ℕ) → HasNumber names name i → Contains hits i

-- finding a name takes at most d steps, where 2^d is above the number of different names, and one for each equal name
abbrev pub KeepsBound : List (List ℕ) → List ℕ → ℕ → ℕ → Type 0
KeepsBound names name old new = (different : List (List ℕ)) (hits : List ℕ) (d : ℕ) → HasNames names different
    → HasHits names name hits → length different < 2 ^ d → new ≤ old + d + length hits
