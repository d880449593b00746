-- The number of states of a glob.
use Rattle.std.specs.Prelude.{ℕ, ◌+◌, List, sum}
use Rattle.std.specs.List.{sum_by}
use Rattle.deny_globs.specs.declared.token.Token.{Token, fold-Token}
use Rattle.deny_globs.specs.declared.token.Token.TheOpen.{Token-F}

-- the number of states of a token, from those of the tokens of its alternatives
abbrev pub states_step : Token-F ℕ → ℕ
states_step (Token-F.Character c) = 1
states_step Token-F.AnyCharacter = 1
states_step (Token-F.OneOf class) = 1
states_step Token-F.AnyText = 1
states_step Token-F.LeadingFolders = 3
states_step Token-F.TrailingPath = 2
states_step Token-F.MiddleFolders = 4
states_step (Token-F.Alternatives alternatives) = sum_by (λ sizes. sum sizes + 1) alternatives + 1

abbrev pub states_in : Token → ℕ
states_in = fold-Token ℕ states_step

abbrev pub states_of : List Token → ℕ
states_of tokens = sum_by states_in tokens

abbrev pub states_of_all : List (List Token) → ℕ
states_of_all alternatives = sum_by (λ tokens. states_of tokens + 1) alternatives + 1
