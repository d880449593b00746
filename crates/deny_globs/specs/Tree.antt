-- The tokens of pieces, and globs.
use Rattle.std.specs.Prelude.{ℕ, zero, suc, ◌<◌, List, [], ◌∷◌, ◌++◌}
use Rattle.deny_globs.specs.declared.token.Token.{Token}
use Rattle.deny_globs.specs.declared.token.Token.TheVariants.{Character, AnyText, MiddleFolders, Alternatives}
use Rattle.deny_globs.specs.declared.piece.Piece.{Piece}
use Rattle.deny_globs.specs.declared.piece.Piece.TheVariants.{Token as Whole, Middle, Open, Comma, Close}
use Rattle.deny_globs.specs.Characters.{slash, comma}
use Rattle.deny_globs.specs.Pieces.{Spells}

-- the largest number of braces that may be open at once
abbrev pub most_braces : ℕ
most_braces = 16

mutual
  -- the pieces, with this many braces open around them, are these tokens
  pub data AreTokens : ℕ → List Piece → List Token → Type 0 where
    nothing : {depth : ℕ} → AreTokens depth [] []
    token : {depth : ℕ} {token : Token} {pieces : List Piece} {tokens : List Token} → AreTokens depth pieces tokens
        → AreTokens depth (Whole token ∷ pieces) (token ∷ tokens)
    middle : {pieces : List Piece} {tokens : List Token} → AreTokens zero pieces tokens
        → AreTokens zero (Middle ∷ pieces) (MiddleFolders ∷ tokens)
    middle_inside : {depth : ℕ} {pieces : List Piece} {tokens : List Token} → AreTokens (suc depth) pieces tokens
        → AreTokens (suc depth) (Middle ∷ pieces) (Character slash ∷ AnyText ∷ Character slash ∷ tokens)
    comma_outside : {pieces : List Piece} {tokens : List Token} → AreTokens zero pieces tokens
        → AreTokens zero (Comma ∷ pieces) (Character comma ∷ tokens)
    braces : {depth from : ℕ} {tokens : List Token} {alternatives : List (List Token)} (inside behind : List Piece)
        (to : ℕ) →
        depth < most_braces → AreAlternatives (suc depth) inside alternatives → AreTokens depth behind tokens →
        AreTokens depth (Open from ∷ (inside ++ Close to ∷ behind)) (Alternatives alternatives ∷ tokens)

  -- the pieces are these alternatives, with a comma between each two
  pub data AreAlternatives : ℕ → List Piece → List (List Token) → Type 0 where
    last : {depth : ℕ} {pieces : List Piece} {tokens : List Token} → AreTokens depth pieces tokens
        → AreAlternatives depth pieces (tokens ∷ [])
    more : {depth : ℕ} {tokens : List Token} {alternatives : List (List Token)} (pieces behind : List Piece) →
        AreTokens depth pieces tokens → AreAlternatives depth behind alternatives
        → AreAlternatives depth (pieces ++ Comma ∷ behind) (tokens ∷ alternatives)

-- The characters are a glob with these tokens.
pub record IsGlob (characters : List ℕ) (tokens : List Token) : Type 0 where
  pub pieces : List Piece
  pub spelled : Spells 0 characters [] pieces
  pub tree : AreTokens 0 pieces tokens
