-- The head of a table, in the order in which it is checked. Numbers are little endian.
use Rattle.std.specs.Prelude.{ℕ, zero, suc, ◌+◌, ◌-◌, ◌*◌, ◌==◌, ◌&&◌, ◌||◌, ◌<◌, ◌≤◌, Bool, nat_lt, nat_le, List}
use Rattle.std.specs.Prelude.{length, Result, Ok, Err, slice_index, if◌then◌else◌}
use Rattle.deny_std_table.specs.declared.error.ReplacementError.{ReplacementError}
use Rattle.deny_std_table.specs.declared.error.ReplacementError.TheVariants.{Bad}
use Rattle.deny_std_table.specs.Reading.{◌>>◌, unless_bad, number}

-- whether this byte is at an offset
abbrev pub has_byte : List ℕ → ℕ → ℕ → Bool
has_byte bytes at value = nat_lt at (length bytes) && slice_index bytes at == value

-- the version: the number of bytes of the length of a text, which is one in version 1 and two in version 2
unfoldable pub version : List ℕ → Result ℕ ReplacementError
version bytes = if has_byte bytes 3 1 then Ok 1 else (if has_byte bytes 3 2 then Ok 2 else Err (Bad 3))

-- cd cd cd and the version
unfoldable pub header : List ℕ → Result ℕ ReplacementError
header bytes = do
  unless_bad (has_byte bytes 0 0xcd) 0
  unless_bad (has_byte bytes 1 0xcd) 1
  unless_bad (has_byte bytes 2 0xcd) 2
  version bytes

-- the number of entries, which is not 0
unfoldable pub count_of : List ℕ → Result ℕ ReplacementError
count_of bytes = do
  unless_bad (nat_le 8 (length bytes) && nat_lt 0 (number 4 bytes 4)) 4
  Ok (number 4 bytes 4)

-- the offset where an entry begins
abbrev pub start_of : List ℕ → ℕ → ℕ
start_of bytes i = number 4 bytes (8 + 4 * i)

-- whether an offset is complete, not inside the head, above the one before, and below the length
abbrev pub is_offset : List ℕ → ℕ → ℕ → Bool
is_offset bytes count i =
    nat_le (8 + 4 * i + 4) (length bytes)
    && nat_le (8 + 4 * count) (start_of bytes i)
    && (i == 0 || nat_lt (start_of bytes (i - 1)) (start_of bytes i))
    && nat_lt (start_of bytes i) (length bytes)

-- The offset of an entry passes that test.
pub record IsOffset (bytes : List ℕ) (count i : ℕ) : Type 0 where
  pub whole : 8 + 4 * i + 4 ≤ length bytes
  pub after_head : 8 + 4 * count ≤ start_of bytes i
  pub rises : 0 < i → start_of bytes (i - 1) < start_of bytes i
  pub below : start_of bytes i < length bytes

-- All offsets pass that test.
pub record HasOffsets (bytes : List ℕ) (count : ℕ) : Type 0 where
  pub each : (i : ℕ) → i < count → IsOffset bytes count i

-- this many offsets in order, from this one on
unfoldable pub offsets : List ℕ → ℕ → ℕ → ℕ → Result (Unit {0}) ReplacementError
offsets bytes count i zero = Ok tt
offsets bytes count i (suc left) = do
  unless_bad (is_offset bytes count i) (8 + 4 * i)
  offsets bytes count (i + 1) left
