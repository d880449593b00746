-- Which globs fit a path, by their texts.
use Rattle.std.specs.Prelude.{ℕ, List, [], ◌∷◌}
use Rattle.std.specs.Str.{chars}
use Rattle.deny_globs.specs.Fits.{Fits}
use Rattle.deny_globs.specs.Tree.{IsGlob}
use Rattle.deny_globs.specs.declared.token.Token.{Token}

-- the path matches the glob of this text
pub record FitsText (glob path : List ℕ) : Type 0 where
  pub tokens : List Token
  pub written : IsGlob (chars glob) tokens
  pub fits : Fits tokens (chars path)

-- the second list has exactly the globs that fit, in order
pub data AreFitting (path : List ℕ) : List (List ℕ) → List (List ℕ) → Type 0 where
  none : AreFitting path [] []
  fitting : {globs those : List (List ℕ)} (glob : List ℕ) → FitsText glob path → AreFitting path globs those
      → AreFitting path (glob ∷ globs) (glob ∷ those)
  other : {globs those : List (List ℕ)} (glob : List ℕ) → (FitsText glob path → ⊥) → AreFitting path globs those
      → AreFitting path (glob ∷ globs) those
