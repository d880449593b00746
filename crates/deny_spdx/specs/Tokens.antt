-- The tokens of a text.
use Rattle.std.specs.Prelude.{◌≡◌, ◌==◌, ◌||◌, ◌&&◌, ◌<◌, ◌≢◌, ℕ, nat_le, Bool, true, false, if◌then◌else◌, List, []}
use Rattle.std.specs.Prelude.{◌∷◌, ◌++◌, length, codes, nat_eq}
use Rattle.std.specs.List.{list_all}
use Rattle.std.specs.Cmp.Lexicographic.{pointwise}
unfoldable pub use Rattle.deny_base_lists.specs.Blanks.{is_blank}
use Rattle.deny_spdx.specs.declared.token.SpdxToken.{SpdxToken}
use Rattle.deny_spdx.specs.declared.token.SpdxToken.TheVariants.{Word, And, Or, With, Open, Close}

-- an ASCII letter or digit, '-' or '.'
unfoldable pub is_word_byte : ℕ → Bool
is_word_byte b = (nat_le 97 b && nat_le b 122) || (nat_le 65 b && nat_le b 90) || (nat_le 48 b && nat_le b 57) || b
    == 45 || b == 46

-- a byte of a word, '(', ')' or '/'
unfoldable pub begins_token : ℕ → Bool
begins_token b = is_word_byte b || b == 40 || b == 41 || b == 47

-- The bytes are one byte of a word, or more.
pub record IsWord (bytes : List ℕ) : Type 0 where
  pub some : 0 < length bytes
  pub each : list_all is_word_byte bytes ≡ true

-- the token of a word without '+'
unfoldable pub token_of : List ℕ → SpdxToken
token_of word =
    if pointwise nat_eq word (codes "AND") then And
    else (if pointwise nat_eq word (codes "OR") then Or
    else (if pointwise nat_eq word (codes "WITH") then With else Word word))

-- the text after a word does not continue it: it begins with no byte of a word, and no '+'
abbrev pub EndsWord : List ℕ → Type 0
EndsWord [] = Unit {0}
EndsWord (b ∷ bs) = (is_word_byte b ≡ false) × (b ≢ 43)

-- the text begins with this token, followed by the rest
pub data BeginsWith : List ℕ → SpdxToken → List ℕ → Type 0 where
  -- a word of all bytes that continue it, without '+'
  word : (bytes : List ℕ) {rest : List ℕ} → IsWord bytes → EndsWord rest
      → BeginsWith (bytes ++ rest) (token_of bytes) rest
  -- a word and '+', which is dropped, and with which the word is no operator
  plus : (bytes : List ℕ) {rest : List ℕ} → IsWord bytes → BeginsWith (bytes ++ 43 ∷ rest) (Word bytes) rest
  -- '/'
  slash : {rest : List ℕ} → BeginsWith (47 ∷ rest) Or rest
  -- '('
  opening : {rest : List ℕ} → BeginsWith (40 ∷ rest) Open rest
  -- ')'
  closing : {rest : List ℕ} → BeginsWith (41 ∷ rest) Close rest

-- the text begins with these tokens, with blanks before or after them, followed by the rest
pub data HasTokens : List ℕ → List SpdxToken → List ℕ → Type 0 where
  none : {text : List ℕ} → HasTokens text [] text
  blank : (b : ℕ) {text rest : List ℕ} {tokens : List SpdxToken} → is_blank b ≡ true → HasTokens text tokens rest
      → HasTokens (b ∷ text) tokens rest
  more : {text after rest : List ℕ} {t : SpdxToken} {tokens : List SpdxToken} → BeginsWith text t after
      → HasTokens after tokens rest → HasTokens text (t ∷ tokens) rest
