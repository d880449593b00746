-- The faults of a value: their paths, their order and their lists.
use Rattle.std.specs.Prelude.{◌≡◌, ◌≢◌, ℕ, Bool, true, false, not, ◌&&◌, ◌||◌, List, [], ◌∷◌, ◌++◌, map, Option}
use Rattle.std.specs.Prelude.{None, Some}
use Rattle.std.specs.Cmp.Lexicographic.{slice_cmp}
use Rattle.std.specs.BTreeSet.{insert_key}
use Rattle.std.specs.List.Sorted.{IsStrictlySortedBy}
use Rattle.std.specs.Ordering.{bool_cmp, nat_cmp, on, then_cmp}
use Rattle.std.specs.declared.cmp.Ordering.{Ordering}
use Rattle.deny_base_lists.specs.Reader.{Fails}
use Rattle.deny_base.specs.KeyOrder.{span_cmp}
use Rattle.deny_base.specs.declared.span.Span.{Span}
use Rattle.deny_toml_tree.specs.Value.{span_in}
use Rattle.deny_toml_tree.specs.declared.value.Value.{Value}
use Rattle.deny_toml_tree.specs.declared.error.FaultKind.{FaultKind}
use Rattle.deny_toml_tree.specs.declared.error.FaultKind.TheVariants as kind
use Rattle.deny_toml_tree.specs.declared.error.ConfigFault.{ConfigFault}
use Rattle.deny_toml_tree.specs.declared.error.DeserError.{DeserError}
use Rattle.deny_toml_tree.specs.declared.error.DeserError.TheVariants.{Faults, Memory}

-- the number of a kind in the order of declaration
unfoldable pub kind_number : FaultKind → ℕ
kind_number kind.NotUtf8 = 0
kind_number kind.Grammar = 1
kind_number kind.Clash = 2
kind_number kind.Unknown = 3
kind_number kind.Missing = 4
kind_number kind.WrongKind = 5
kind_number kind.Unreadable = 6
kind_number kind.NoToday = 7

abbrev pub kind_cmp : FaultKind → FaultKind → Ordering
kind_cmp = on kind_number nat_cmp

-- faults are ordered by span, kind and key, and last by whether they are of a value whose own name is empty
abbrev pub fault_cmp : ConfigFault → ConfigFault → Ordering
fault_cmp =
    then_cmp (on (λ f. f.span) span_cmp)
    (then_cmp (on (λ f. f.kind) kind_cmp) (then_cmp (on (λ f. f.key) (slice_cmp nat_cmp))
    (on (λ f. f.is_nameless) bool_cmp)))

-- the faults in ascending order, each once
unfoldable pub in_order : List ConfigFault → List ConfigFault
in_order [] = []
in_order (f ∷ fs) = insert_key fault_cmp (in_order fs) f

abbrev pub fault_at : FaultKind → List ℕ → Span → ConfigFault
fault_at kind key span = record { span = span; kind = kind; key = key; is_nameless = false }

-- the only fault of a value of another kind than the one that is read, or of a value that cannot be read
abbrev pub wrong_kind : Span → List ConfigFault
wrong_kind span = fault_at kind.WrongKind [] span ∷ []

abbrev pub unreadable : Span → List ConfigFault
unreadable span = fault_at kind.Unreadable [] span ∷ []

-- the faults of a value that is read as one kind: none, or the wrong kind
abbrev pub faults_of_kind : {A : Type 0} → Value → Option A → List ConfigFault
faults_of_kind v None = wrong_kind (span_in v)
faults_of_kind v (Some x) = []

-- whether a fault of this kind names a key, so that it is never one of the value itself
abbrev pub names_key : FaultKind → Bool
names_key kind.Unknown = true
names_key kind.Missing = true
names_key _ = false

-- whether a path is that of the value itself: it is empty, names no key, and is not that of a value whose own name is
-- empty
abbrev pub is_own_path : Bool → Bool → List ℕ → Bool
is_own_path names nameless [] = not names && not nameless
is_own_path names nameless (c ∷ cs) = false

abbrev pub is_of_itself : ConfigFault → Bool
is_of_itself f = is_own_path (names_key f.kind) f.is_nameless f.key

-- The path from the value that has, under this name, the value of the path: the name alone for that value itself, and
-- else both parts, of which either may be empty.
abbrev pub path_of : List ℕ → Bool → List ℕ → List ℕ
path_of name true path = name
path_of name false path = name ++ 46 ∷ path

abbrev pub path_under : List ℕ → ConfigFault → List ℕ
path_under name f = path_of name (is_of_itself f) f.key

abbrev pub is_empty : List ℕ → Bool
is_empty [] = true
is_empty (c ∷ cs) = false

abbrev pub fault_under : List ℕ → ConfigFault → ConfigFault
fault_under name f = record {
  span = f.span;
  kind = f.kind;
  key = path_under name f;
  is_nameless = f.is_nameless || (is_of_itself f && is_empty name);
}

-- the faults of a value as those of the value that has it under this name
abbrev pub under : List ℕ → List ConfigFault → List ConfigFault
under name faults = map (fault_under name) faults

-- the error lists these faults: there are some, and they ascend
abbrev pub IsListOf : List ConfigFault → DeserError → Type 0
IsListOf faults (Faults listed) = (listed ≡ faults) × (faults ≢ []) × IsStrictlySortedBy fault_cmp faults
IsListOf faults Memory = ⊥

-- an error of a value with these faults: it lists them, or memory ran out
abbrev pub Reports : List ConfigFault → DeserError → Type 0
Reports faults e = Fails Memory (IsListOf faults) e
