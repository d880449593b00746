-- Records in the order of their names, each name once: where a name is among them, and where it would be inserted.
use Rattle.std.specs.Prelude.{ℕ, ◌≡◌, ◌<◌, ◌≤◌, List, length, map, Some, slice_get}
use Rattle.std.specs.Ordering.{nat_cmp}
use Rattle.std.specs.declared.cmp.Ordering.TheVariants.{Less}
use Rattle.std.specs.Cmp.Lexicographic.{slice_cmp}
use Rattle.std.specs.List.Sorted.{IsStrictlySortedBy}

-- the names ascend, each once
abbrev pub Ascend : {T : Type 0} → (T → List ℕ) → List T → Type 0
Ascend name_of records = IsStrictlySortedBy (slice_cmp nat_cmp) (map name_of records)

-- the record at this index has the name
pub record IsNamedAt {T : Type 0} (name_of : T → List ℕ) (records : List T) (name : List ℕ) (index : ℕ) : Type 0 where
  pub named : T
  pub at : slice_get records index ≡ Some named
  pub is_name : name_of named ≡ name

-- the names before this index are below the name, and the others above it
pub record IsGap {T : Type 0} (name_of : T → List ℕ) (records : List T) (name : List ℕ) (index : ℕ) : Type 0 where
  pub inside : index ≤ length records
  pub below : (i : ℕ) (named : T) → i < index → slice_get records i ≡ Some named
      → slice_cmp nat_cmp (name_of named) name ≡ Less
  pub above : (i : ℕ) (named : T) → index ≤ i → slice_get records i ≡ Some named
      → slice_cmp nat_cmp name (name_of named) ≡ Less
