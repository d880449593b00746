-- The value that a text spells, and the offset from which on a text begins nothing that is spelled. S relates tokens to
-- what they spell.
use Rattle.std.specs.Prelude.{◌≡◌, ◌+◌, ℕ, false, List, [], ◌∷◌, ◌++◌, length}
use Rattle.deny_spdx.specs.declared.token.SpdxToken.{SpdxToken}
use Rattle.deny_spdx.specs.Tokens.{is_blank, begins_token, BeginsWith, HasTokens}

-- The tokens of the text, to its end, spell x.
pub record Spells {A : Type 0} (S : List SpdxToken → A → Type 0) (text : List ℕ) (x : A) : Type 0 where
  pub tokens : List SpdxToken
  pub all : HasTokens text tokens []
  pub spelled : S tokens x

-- the tokens are whole: they spell something
abbrev pub AreWhole : {A : Type 0} → (List SpdxToken → A → Type 0) → List SpdxToken → Type 0
AreWhole {A} S tokens = (x : A) × S tokens x

-- the tokens begin something: with more tokens, or none, they are whole
abbrev pub Begin : {A : Type 0} → (List SpdxToken → A → Type 0) → List SpdxToken → Type 0
Begin S tokens = (more : List SpdxToken) × AreWhole S (tokens ++ more)

-- the rest goes wrong at once after these tokens
pub data GoesWrong {A : Type 0} (S : List SpdxToken → A → Type 0) : List SpdxToken → List ℕ → Type 0 where
  -- the text ends, and the tokens are not whole
  ends : {tokens : List SpdxToken} → ¬ AreWhole S tokens → GoesWrong S tokens []
  -- a byte comes that is no blank and begins no token
  no_token : {tokens : List SpdxToken} (b : ℕ) {bytes : List ℕ} → is_blank b ≡ false → begins_token b ≡ false
      → GoesWrong S tokens (b ∷ bytes)
  -- a token comes with which the tokens begin nothing, such as one more `(` where 64 are open
  token : {tokens : List SpdxToken} {rest after : List ℕ} (t : SpdxToken) → BeginsWith rest t after
      → ¬ Begin S (tokens ++ t ∷ []) → GoesWrong S tokens rest

-- The text goes wrong first at this byte: the tokens before it begin something.
pub record IsBadAt {A : Type 0} (S : List SpdxToken → A → Type 0) (text : List ℕ) (offset : ℕ) : Type 0 where
  pub tokens : List SpdxToken
  pub rest : List ℕ
  pub before : HasTokens text tokens rest
  pub begins : Begin S tokens
  pub wrong : GoesWrong S tokens rest
  pub at : offset + length rest ≡ length text
