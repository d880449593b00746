-- Errors of reading a checksum.
use Rattle.std.specs.Prelude.{⊤, ℕ, List}
use Rattle.std.specs.Prelude.{Result, Ok, Err}
use Rattle.hex.specs.declared.error.FromHexError.{FromHexError}
use Rattle.hex.specs.declared.error.FromHexError.TheVariants as hex
use Rattle.deny_cfg_tables.specs.declared.bans.cfg.checksum.Checksum.{Checksum}
use Rattle.deny_cfg_tables.specs.declared.bans.cfg.checksum.ChecksumParseError.{ChecksumParseError}

-- an error of decoding names a character
abbrev pub NamesCharacter : FromHexError → Type 0
NamesCharacter (hex.InvalidHexCharacter c index) = ⊤
NamesCharacter e = ⊥

abbrev pub character_of : FromHexError → ℕ
character_of (hex.InvalidHexCharacter c index) = c
character_of e = 0

abbrev pub checksum_view : Result Checksum ChecksumParseError → Result (List ℕ) ChecksumParseError
checksum_view (Ok checksum) = Ok checksum.0
checksum_view (Err error) = Err error
