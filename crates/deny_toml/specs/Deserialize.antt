-- The value that each type reads, and the faults of a value that is read as the type.
use Rattle.std.specs.Prelude.{ℕ, ◌+◌, ◌^◌, ℤ, pos, negsuc, List, [], ◌∷◌, ◌++◌, Option, None, Some, nat_lt, ⊤}
use Rattle.std.specs.Prelude.{if◌then◌else◌}
use Rattle.std.specs.Fmt.{decimal}
use Rattle.deny_toml_tree.specs.declared.error.ConfigFault.{ConfigFault}
use Rattle.deny_toml_tree.specs.declared.value.Value.{Value}
use Rattle.deny_toml_tree.specs.Value.{span_in}
use Rattle.deny_toml_tree.specs.Faults.{wrong_kind, unreadable, under, in_order}
pub use Rattle.deny_toml_tree.specs.Faults.{faults_of_kind}

-- the number that is read as a `u32`: not negative, and below 2 ^ 32
abbrev pub small_number : ℤ → Option ℕ
small_number (pos n) = if nat_lt n (2 ^ 32) then Some n else None
small_number (negsuc n) = None

abbrev pub faults_of_number : Value → Option ℕ → List ConfigFault
faults_of_number v None = unreadable (span_in v)
faults_of_number v (Some n) = []

abbrev pub faults_of_small : Value → Option ℤ → List ConfigFault
faults_of_small v None = wrong_kind (span_in v)
faults_of_small v (Some n) = faults_of_number v (small_number n)

-- the faults of the elements of an array from an index on, each under its index
abbrev pub faults_from : (Value → List ConfigFault) → ℕ → List Value → List ConfigFault
faults_from faults_of index [] = []
faults_from faults_of index (v ∷ vs) = under (decimal index) (faults_of v) ++ faults_from faults_of (index + 1) vs

abbrev pub faults_of_array : (Value → List ConfigFault) → Value → Option (List Value) → List ConfigFault
faults_of_array faults_of v None = wrong_kind (span_in v)
faults_of_array faults_of v (Some vs) = in_order (faults_from faults_of 0 vs)

-- each element is read, in order
abbrev pub ReadsEach : {T : Type 0} → (Value → T → Type 0) → List Value → List T → Type 0
ReadsEach Reads [] [] = ⊤
ReadsEach Reads [] (x ∷ xs) = ⊥
ReadsEach Reads (v ∷ vs) [] = ⊥
ReadsEach Reads (v ∷ vs) (x ∷ xs) = Reads v x × ReadsEach Reads vs xs

abbrev pub ReadsArray : {T : Type 0} → (Value → T → Type 0) → Option (List Value) → List T → Type 0
ReadsArray Reads None xs = ⊥
ReadsArray Reads (Some vs) xs = ReadsEach Reads vs xs
