-- Checksums: 32 bytes, written as 64 hex digits.
use Rattle.std.specs.Prelude.{ℕ, ◌+◌, ◌*◌, ◌==◌, Bool, not, List, [], ◌∷◌, length, find, Option, None, Some}
use Rattle.std.specs.Prelude.{unwrap_or, Result, Ok, Err, if◌then◌else◌}
use Rattle.hex.specs.Hex.{hex_digit_value, is_hex_digit}
use Rattle.deny_cfg_tables.specs.declared.bans.cfg.checksum.ChecksumParseError.{ChecksumParseError}
use Rattle.deny_cfg_tables.specs.declared.bans.cfg.checksum.ChecksumParseError.TheVariants.{InvalidLength, InvalidValue}

abbrev pub digit : ℕ → ℕ
digit byte = unwrap_or (hex_digit_value byte) 0

-- the bytes that pairs of hex digits write
abbrev pub bytes_of : List ℕ → List ℕ
bytes_of [] = []
bytes_of (high ∷ []) = []
bytes_of (high ∷ low ∷ rest) = (digit high * 16 + digit low) ∷ bytes_of rest

abbrev pub not_hex : ℕ → Bool
not_hex byte = not (is_hex_digit byte)

abbrev pub bytes_or : Option ℕ → List ℕ → Result (List ℕ) ChecksumParseError
bytes_or None bytes = Ok bytes
bytes_or (Some byte) bytes = Err (InvalidValue byte)

-- the bytes that 64 hex digits of either case write, or the error: the length, or else the first byte that is no digit
unfoldable pub checksum_in : List ℕ → Result (List ℕ) ChecksumParseError
checksum_in text =
    if length text == 64 then bytes_or (find not_hex text) (bytes_of text) else Err (InvalidLength (length text))

abbrev pub read_or_none : Result (List ℕ) ChecksumParseError → Option (List ℕ)
read_or_none (Ok bytes) = Some bytes
read_or_none (Err error) = None

-- the bytes of a text that is a checksum
abbrev pub checksum_of : List ℕ → Option (List ℕ)
checksum_of text = read_or_none (checksum_in text)
