-- A text read token by token: `step` gives the reader after a token.
use Rattle.std.specs.Prelude.{◌≡◌, ◌+◌, ℕ, false, List, [], ◌∷◌, length, Option, Some, None}
use Rattle.deny_spdx.specs.declared.token.SpdxToken.{SpdxToken}
use Rattle.deny_spdx.specs.declared.error.SpdxError.{SpdxError}
use Rattle.deny_spdx.specs.declared.error.SpdxError.TheVariants.{Bad, Memory}
use Rattle.deny_spdx.specs.declared.reading.TokenStep.{TokenStep}
use Rattle.deny_spdx.specs.declared.reading.TokenStep.TheVariants.{On, Wrong, End}
use Rattle.deny_spdx.specs.Tokens.{is_blank, begins_token, BeginsWith, HasTokens}
use Rattle.deny_spdx.specs.private.Prefix.{HasTokenPrefix}
use Rattle.deny_spdx.specs.private.Reader.{run_by}

-- the text does not begin with a blank
abbrev pub NoBlankFirst : List ℕ → Type 0
NoBlankFirst [] = Unit {0}
NoBlankFirst (b ∷ bytes) = is_blank b ≡ false

-- the reader cannot continue: a byte begins no token, or the token may not come
pub data IsStuck {R : Type 0} (step : R → SpdxToken → Option R) (r : R) : List ℕ → Type 0 where
  no_token : (b : ℕ) {bytes : List ℕ} → begins_token b ≡ false → IsStuck step r (b ∷ bytes)
  token : {rest after : List ℕ} (t : SpdxToken) → BeginsWith rest t after → step r t ≡ None → IsStuck step r rest

-- The rest begins with a token, which leads the reader to `after`.
pub record StepsOn {R : Type 0} (step : R → SpdxToken → Option R) (r : R) (rest : List ℕ) (after : R)
    (n : ℕ) : Type 0 where
  pub next : SpdxToken
  pub prefix : HasTokenPrefix rest next n
  pub steps : step r next ≡ Some after

abbrev pub IsTurn : {R : Type 0} → (R → SpdxToken → Option R) → R → List ℕ → TokenStep R → Type 0
IsTurn step r rest (On after n) = StepsOn step r rest after n
IsTurn step r rest Wrong = IsStuck step r rest
IsTurn step r rest (End last) = (rest ≡ []) × (last ≡ r)

-- The tokens of the text lead from `start` to this reader.
pub record IsRead {R : Type 0} (step : R → SpdxToken → Option R) (start : R) (text : List ℕ) (last : R) : Type 0 where
  pub tokens : List SpdxToken
  pub all : HasTokens text tokens []
  pub runs : run_by step start tokens ≡ Some last

-- The tokens so far lead to this reader, and the rest does not begin with a blank.
pub record IsReadTo {R : Type 0} (step : R → SpdxToken → Option R) (start : R) (text rest : List ℕ)
    (last : R) : Type 0 where
  pub tokens : List SpdxToken
  pub before : HasTokens text tokens rest
  pub runs : run_by step start tokens ≡ Some last
  pub plain : NoBlankFirst rest

-- The reader cannot continue at this offset.
pub record StopsAt {R : Type 0} (step : R → SpdxToken → Option R) (start : R) (text : List ℕ)
    (offset : ℕ) : Type 0 where
  pub rest : List ℕ
  pub last : R
  pub to : IsReadTo step start text rest last
  pub stuck : IsStuck step last rest
  pub at : offset + length rest ≡ length text

abbrev pub Stops : {R : Type 0} → (R → SpdxToken → Option R) → R → List ℕ → SpdxError → Type 0
Stops step start text (Bad offset) = StopsAt step start text offset
Stops step start text Memory = Unit {0}
