-- A glob as contracts see it.
use Rattle.std.specs.Prelude.{ℕ, List}
use Rattle.deny_globs.specs.declared.token.Token.{Token}

-- the characters of a glob, and the tokens that they spell
abbrev pub Pattern : Type 0
Pattern = List ℕ × List Token

abbrev pub characters_of : Pattern → List ℕ
characters_of glob = glob.0

abbrev pub tokens_of : Pattern → List Token
tokens_of glob = glob.1
