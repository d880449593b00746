-- The literals that every path begins or ends with that fits some tokens.
use Rattle.std.specs.Prelude.{ℕ, ◌≡◌, List, ◌++◌, reverse}
use Rattle.deny_globs.specs.declared.token.Token.{Token}
use Rattle.deny_globs.specs.Fits.{Fits}

-- The path begins with the literal.
pub record IsBegun (literal path : List ℕ) : Type 0 where
  pub rest : List ℕ
  pub whole : path ≡ literal ++ rest

-- each path that fits begins with the literal
abbrev pub BeginsAll : List Token → List ℕ → Type 0
BeginsAll tokens literal = (path : List ℕ) → Fits tokens path → IsBegun literal path

-- each path that fits ends with the literal, whose characters are reversed
abbrev pub EndsAll : List Token → List ℕ → Type 0
EndsAll tokens literal = (path : List ℕ) → Fits tokens path → IsBegun literal (reverse path)
