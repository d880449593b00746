-- Which texts fit a token, and which fit a list of tokens.
use Rattle.std.specs.Prelude.{ℕ, List, [], ◌∷◌, ◌++◌, IsTrue}
use Rattle.deny_globs.specs.declared.token.CharacterClass.{CharacterClass}
use Rattle.deny_globs.specs.declared.token.Token.{Token}
use Rattle.deny_globs.specs.declared.token.Token.TheVariants.{Character, AnyCharacter, OneOf, AnyText, LeadingFolders}
use Rattle.deny_globs.specs.declared.token.Token.TheVariants.{TrailingPath, MiddleFolders, Alternatives}
use Rattle.deny_globs.specs.Characters.{slash}
use Rattle.deny_globs.specs.Class.{class_takes}

mutual
  -- the characters are a text of the token
  pub data IsText : Token → List ℕ → Type 0 where
    itself : (c : ℕ) → IsText (Character c) (c ∷ [])
    any_character : (c : ℕ) → IsText AnyCharacter (c ∷ [])
    member : (class : CharacterClass) (c : ℕ) → IsTrue (class_takes class c) → IsText (OneOf class) (c ∷ [])
    any_text : (cs : List ℕ) → IsText AnyText cs
    at_the_start : IsText LeadingFolders []
    below_the_start : (cs : List ℕ) → IsText LeadingFolders (cs ++ slash ∷ [])
    at_the_end : (cs : List ℕ) → IsText TrailingPath (slash ∷ cs)
    one_slash : IsText MiddleFolders (slash ∷ [])
    between_slashes : (cs : List ℕ) → IsText MiddleFolders (slash ∷ (cs ++ slash ∷ []))
    alternative : {alternatives : List (List Token)} {cs : List ℕ} → IsTextOfOne alternatives cs
        → IsText (Alternatives alternatives) cs

  -- the characters are a text of one of the alternatives
  pub data IsTextOfOne : List (List Token) → List ℕ → Type 0 where
    first : {tokens : List Token} {others : List (List Token)} {cs : List ℕ} → Fits tokens cs
        → IsTextOfOne (tokens ∷ others) cs
    later : {tokens : List Token} {others : List (List Token)} {cs : List ℕ} → IsTextOfOne others cs
        → IsTextOfOne (tokens ∷ others) cs

  -- the characters are the tokens' texts, one after the other
  pub data Fits : List Token → List ℕ → Type 0 where
    nothing : Fits [] []
    joined : {token : Token} {tokens : List Token} (prefix rest : List ℕ) → IsText token prefix → Fits tokens rest
        → Fits (token ∷ tokens) (prefix ++ rest)
