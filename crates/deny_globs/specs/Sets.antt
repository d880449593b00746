-- The globs of a set that fit a path, and the steps to find them.
use Rattle.std.specs.Prelude.{ℕ, ◌≡◌, ◌<◌, ◌≤◌, ◌+◌, ◌*◌, ◌^◌, List, [], ◌∷◌, length, drop, Bool, true, false}
use Rattle.std.specs.Prelude.{◌==◌, ◌&&◌, if◌then◌else◌, Some, Contains, IsSomeAnd, slice_get}
use Rattle.std.specs.List.{list_all, sum_by}
use Rattle.std.specs.List.Sorted.{IsStrictlyIncreasing}
use Rattle.std.specs.Char.{is_ascii_alphanumeric}
use Rattle.deny_globs.specs.Characters.{star, dot}
use Rattle.deny_globs.specs.Fits.{Fits}
use Rattle.deny_globs.specs.Patterns.{Pattern, characters_of, tokens_of}
use Rattle.deny_globs.specs.Tree.{IsGlob}
use Rattle.deny_globs.specs.declared.token.Token.{Token}

-- the characters of a glob are a glob with its tokens, and with no others
pub record IsRead (glob : Pattern) : Type 0 where
  pub tokens : IsGlob (characters_of glob) (tokens_of glob)
  pub only : (other : List Token) → IsGlob (characters_of glob) other → other ≡ tokens_of glob

-- the glob with this number fits
abbrev pub FitsAt : List Pattern → ℕ → List ℕ → Type 0
FitsAt globs i path = IsSomeAnd (slice_get globs i) (λ glob. Fits (tokens_of glob) path)

-- the characters are `*.` and letters or digits, one at least, and nothing else
abbrev pub is_simple : List ℕ → Bool
is_simple [] = false
is_simple (a ∷ []) = false
is_simple (a ∷ b ∷ []) = false
is_simple (a ∷ b ∷ c ∷ cs) = (a == star) && ((b == dot) && list_all is_ascii_alphanumeric (c ∷ cs))

-- the extension that a simple glob asks for
abbrev pub extension_of : List ℕ → List ℕ
extension_of characters = drop 2 characters

-- The glob with this number is simple, and asks for this extension.
pub record AsksFor (globs : List Pattern) (i : ℕ) (name : List ℕ) : Type 0 where
  pub glob : Pattern
  pub at : slice_get globs i ≡ Some glob
  pub simple : is_simple (characters_of glob) ≡ true
  pub named : extension_of (characters_of glob) ≡ name

-- The glob with this number is not simple, and fits.
pub record FitsOther (globs : List Pattern) (i : ℕ) (path : List ℕ) : Type 0 where
  pub glob : Pattern
  pub at : slice_get globs i ≡ Some glob
  pub not_simple : is_simple (characters_of glob) ≡ false
  pub fits : Fits (tokens_of glob) path

-- the list has every extension that a simple glob asks for
abbrev pub HasExtensions : List Pattern → List (List ℕ) → Type 0
HasExtensions globs names = (i : ℕ) (name : List ℕ) → AsksFor globs i name → Contains names name

-- the list has the number of every simple glob that fits
abbrev pub HasSimpleHits : List Pattern → List ℕ → List ℕ → Type 0
HasSimpleHits globs path hits = (i : ℕ) (name : List ℕ) → AsksFor globs i name → FitsAt globs i path → Contains hits i

-- the weight of a glob that is not simple: twice its characters, and 2
abbrev pub weight : Pattern → ℕ
weight glob = if is_simple (characters_of glob) then 0 else 2 * length (characters_of glob) + 2

abbrev pub weight_of : List Pattern → ℕ
weight_of globs = sum_by weight globs

-- The numbers are ascending, and the first of those of the globs that fit.
pub record AreFirstFitting (globs : List Pattern) (path indices : List ℕ) : Type 0 where
  pub ascending : IsStrictlyIncreasing indices
  pub fit : (i : ℕ) → Contains indices i → FitsAt globs i path
  pub first : (i j : ℕ) → Contains indices j → i < j → FitsAt globs i path → Contains indices i

-- the bound of the steps: for the least number d with 2^d above the number of extensions, d, one for each simple glob
-- that fits, and the weights once at each index of the path, its end too
abbrev pub KeepsBound : List Pattern → List ℕ → ℕ → ℕ → Type 0
KeepsBound globs path old new = (names : List (List ℕ)) (hits : List ℕ) (d : ℕ) → HasExtensions globs names
    → HasSimpleHits globs path hits → length names < 2 ^ d →
    new ≤ old + d + length hits + (length path + 1) * weight_of globs
