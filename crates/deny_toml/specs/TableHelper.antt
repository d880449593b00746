-- The values that a helper reads from the keys of a table, and the faults that it reports and keeps.
use Rattle.std.specs.Prelude.{◌≡◌, ◌≢◌, ℕ, List, [], ◌∷◌, ◌++◌, map, Option, None, Some}
use Rattle.deny_base.specs.declared.span.Span.{Span}
use Rattle.deny_toml_tree.specs.declared.error.FaultKind.TheVariants as kind
use Rattle.deny_toml_tree.specs.declared.error.ConfigFault.{ConfigFault}
use Rattle.deny_toml_grammar.specs.declared.parts.Key.{Key}
use Rattle.deny_toml_tree.specs.declared.value.Value.{Value}
use Rattle.deny_toml_tree.specs.Faults.{fault_at, under, in_order}

-- the faults of a required key: the missing key at the table, or those of its value
abbrev pub required_faults : (Value → List ConfigFault) → Span → List ℕ → Option Value → List ConfigFault
required_faults faults_of table name None = fault_at kind.Missing name table ∷ []
required_faults faults_of table name (Some v) = under name (faults_of v)

-- the value that is read from a required key
abbrev pub ReadsRequired : {T : Type 0} → (Value → List ConfigFault) → (Value → T → Type 0) → Option Value → T → Type 0
ReadsRequired faults_of Reads None x = ⊥
ReadsRequired faults_of Reads (Some v) x = (faults_of v ≡ []) × Reads v x

-- the faults of an optional key
abbrev pub optional_faults : (Value → List ConfigFault) → List ℕ → Option Value → List ConfigFault
optional_faults faults_of name None = []
optional_faults faults_of name (Some v) = under name (faults_of v)

-- the value that is read from an optional key: none where it is missing, and where its value has faults
abbrev pub ReadsOptional : {T : Type 0} → (Value → List ConfigFault) → (Value → T → Type 0) → Option Value → Option T
    → Type 0
ReadsOptional faults_of Reads None read = read ≡ None
ReadsOptional faults_of Reads (Some v) None = faults_of v ≢ []
ReadsOptional faults_of Reads (Some v) (Some x) = (faults_of v ≡ []) × Reads v x

-- the fault of a key that was not read, at the key
abbrev pub unknown : Key × Value → ConfigFault
unknown e = fault_at kind.Unknown e.0.name e.0.span

-- the faults of a table: those that were kept, and each key that is left
abbrev pub table_faults : List ConfigFault → List (Key × Value) → List ConfigFault
table_faults kept entries = in_order (kept ++ map unknown entries)
