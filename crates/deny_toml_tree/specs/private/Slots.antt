-- The slots of the segments before, as the search for the first clash keeps them.
use Rattle.std.specs.Prelude.{◌≡◌, ℕ, Bool, true, false, List, length, Option, Some, None, IfSome, option_map, Result}
use Rattle.std.specs.Prelude.{Ok, Err}
use Rattle.std.specs.BTreeMap.{get_by}
use Rattle.std.specs.Cmp.Lexicographic.{slice_cmp}
use Rattle.std.specs.Ordering.{nat_cmp, ordering_then}
use Rattle.deny_base.specs.declared.span.Span.{Span}
use Rattle.deny_toml_tree.specs.declared.clash.Role.{Role}
use Rattle.deny_toml_tree.specs.declared.clash.Role.TheVariants.{HeaderPasses, HeaderNames, ArrayNames, KeyPasses}
use Rattle.deny_toml_tree.specs.declared.clash.Role.TheVariants.{KeySets}
use Rattle.deny_toml_tree.specs.declared.clash.Occupant.{Occupant}
use Rattle.deny_toml_tree.specs.declared.clash.Slots.{Slots}
use Rattle.deny_toml_tree.specs.declared.clash.Refusal.{Refusal}
use Rattle.deny_toml_tree.specs.declared.clash.Refusal.TheVariants.{Clash, Memory}
use Rattle.deny_toml_tree.specs.Clash.{Segment, at_slot, roles_of, may_duplicate, table_of, follow}

-- whether a segment may be at a slot where a segment of the other role decides
abbrev pub admits : Role → Option Role → Bool
admits role None = true
admits HeaderPasses (Some KeySets) = false
admits HeaderPasses (Some _) = true
admits HeaderNames (Some HeaderPasses) = true
admits HeaderNames (Some _) = false
admits ArrayNames (Some ArrayNames) = true
admits ArrayNames (Some _) = false
admits KeyPasses (Some HeaderPasses) = true
admits KeyPasses (Some KeyPasses) = true
admits KeyPasses (Some _) = false
admits KeySets (Some _) = false

-- the occupant of a slot after one more segment with this number
abbrev pub occupant_after : Option Occupant → Role → ℕ → Occupant
occupant_after None role number = record { role = role; table = number }
occupant_after (Some occupant) HeaderPasses number = occupant
occupant_after (Some occupant) ArrayNames number = record { role = ArrayNames; table = number }
occupant_after (Some occupant) role number = record { role = role; table = occupant.table }

-- the occupant of a slot
abbrev pub occupant_at : Slots → ℕ → List ℕ → Option Occupant
occupant_at slots table name = get_by (λ k. ordering_then (nat_cmp table k.table) (slice_cmp nat_cmp name k.name.now))
    slots.occupants

-- The occupant of a slot describes the segments there.
pub record ReportsSlot (there : List Segment) (occupant : Option Occupant) : Type 0 where
  pub hold : (role : Role) → may_duplicate role (roles_of there) ≡ admits role (option_map (λ s. s.role) occupant)
  pub table : IfSome occupant (λ s. table_of there ≡ s.table)

-- The slots describe these segments.
pub record Reports (slots : Slots) (before : List Segment) : Type 0 where
  pub count : slots.segments ≡ length before
  pub each : (table : ℕ) (name : List ℕ) → ReportsSlot (at_slot table name before) (occupant_at slots table name)

-- Segments have their slots, up to a table; or the first of them that clashes was found.
abbrev pub Takes : Result ℕ Refusal → Slots → Result (List Segment × ℕ) Span → Type 0
Takes (Ok table) slots expected = (now : List Segment) × (expected ≡ Ok (now, table)) × Reports slots now
Takes (Err (Clash span)) slots expected = expected ≡ Err span
Takes (Err Memory) slots expected = Unit {0}

-- The segments of a key have their slots, and its value has no clash; or the first clash of both was found.
abbrev pub TakesKey : Result (Unit {0}) Refusal → Slots → Result (List Segment × ℕ) Span → Option Span → Type 0
TakesKey (Ok done) slots walked inner = (now : List Segment) × (table : ℕ) × (walked ≡ Ok (now, table))
    × (inner ≡ None) × Reports slots now
TakesKey (Err (Clash span)) slots walked inner = follow walked Some (λ _ _. inner) ≡ Some span
TakesKey (Err Memory) slots walked inner = Unit {0}

-- There is no clash, or the first was found.
abbrev pub Finds : Result (Unit {0}) Refusal → Option Span → Type 0
Finds (Ok done) expected = expected ≡ None
Finds (Err (Clash span)) expected = expected ≡ Some span
Finds (Err Memory) expected = Unit {0}
