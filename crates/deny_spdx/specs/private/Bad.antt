-- The result of a reader, compared with the grammar.
use Rattle.std.specs.Prelude.{ℕ, List, Result, Ok, Err}
use Rattle.deny_spdx.specs.declared.token.SpdxToken.{SpdxToken}
use Rattle.deny_spdx.specs.declared.error.SpdxError.{SpdxError}
use Rattle.deny_spdx.specs.declared.error.SpdxError.TheVariants.{Bad, Memory}
use Rattle.deny_spdx.specs.Bad.{Spells, IsBadAt}

-- a value that is read is spelled, and a text that is refused goes wrong at the offset
abbrev pub IsAnswer : {A : Type 0} → (List SpdxToken → A → Type 0) → List ℕ → Result A SpdxError → Type 0
IsAnswer S text (Ok x) = Spells S text x
IsAnswer S text (Err (Bad offset)) = IsBadAt S text offset
IsAnswer S text (Err Memory) = Unit {0}
