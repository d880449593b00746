-- The reading of the bytes of a table: each reader starts at an offset, and gives what is there with the offset right
-- after it, or the first break.
use Rattle.std.specs.Prelude.{ℕ, zero, suc, ◌+◌, ◌*◌, Bool, Result, Ok, Err, List, [], ◌∷◌, slice_index, if◌then◌else◌}
use Rattle.deny_base_lists.specs.Reader.{◌>>=◌}
use Rattle.deny_std_table.specs.declared.error.ReplacementError.{ReplacementError}
use Rattle.deny_std_table.specs.declared.error.ReplacementError.TheVariants.{Bad}
use Rattle.deny_std_table.specs.declared.spans.Read.{Read}

-- a first step that gives nothing that the second needs
infixl 10 ◌>>◌
abbrev pub ◌>>◌ : {A B : Type 0} → Result A ReplacementError → Result B ReplacementError → Result B ReplacementError
first >> rest = first >>= (λ _. rest)

-- the bytes break at this offset unless the test holds
abbrev pub unless_bad : Bool → ℕ → Result (Unit {0}) ReplacementError
unless_bad test offset = if test then Ok tt else Err (Bad offset)

abbrev pub read : {A : Type 0} → A → ℕ → Read A
read value next = record { value = value; next = next }

-- the little endian number of this many bytes
unfoldable pub number : ℕ → List ℕ → ℕ → ℕ
number zero bytes at = 0
number (suc width) bytes at = slice_index bytes at + 256 * number width bytes (at + 1)

-- this many parts, each right after the one before
unfoldable pub many : {A : Type 0} → (ℕ → Result (Read A) ReplacementError) → ℕ → ℕ
    → Result (Read (List A)) ReplacementError
many reader zero at = Ok (read [] at)
many reader (suc count) at = do
  first ← reader at
  others ← many reader count first.next
  Ok (read (first.value ∷ others.value) others.next)
