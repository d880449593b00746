-- The start of a text.
use Rattle.std.specs.Prelude.{◌≡◌, ◌==◌, ◌<◌, ◌≤◌, ℕ, Bool, false, Option, Some, None, if◌then◌else◌, List, [], ◌∷◌}
use Rattle.std.specs.Prelude.{length, drop, slice_index}
use Rattle.deny_spdx.specs.declared.token.SpdxToken.{SpdxToken}
use Rattle.deny_spdx.specs.declared.token.SpdxToken.TheVariants as token
use Rattle.deny_spdx.specs.declared.token.Prefix.{Prefix}
use Rattle.deny_spdx.specs.declared.token.Prefix.TheVariants as prefix
use Rattle.deny_spdx.specs.Tokens.{begins_token, BeginsWith}

-- The text begins with a token of this many bytes.
pub record HasTokenPrefix (text : List ℕ) (t : SpdxToken) (n : ℕ) : Type 0 where
  pub begins : BeginsWith text t (drop n text)
  pub within : n ≤ length text
  pub ascii : (k : ℕ) → k < n → slice_index text k < 128

-- the text begins with what was found
abbrev pub HasPrefix : List ℕ → Prefix → Type 0
HasPrefix text prefix.End = text ≡ []
HasPrefix text prefix.NoToken = (b : ℕ) × (bytes : List ℕ) × (text ≡ b ∷ bytes) × (begins_token b ≡ false)
HasPrefix text (prefix.Token t n) = HasTokenPrefix text t n

-- the start of a text whose first byte is in no word
unfoldable pub mark_of : ℕ → Prefix
mark_of b =
    if b == 40 then prefix.Token token.Open 1
    else (if b == 41 then prefix.Token token.Close 1
    else (if b == 47 then prefix.Token token.Or 1 else prefix.NoToken))

-- whether a byte is a plus
abbrev pub is_plus : Option ℕ → Bool
is_plus None = false
is_plus (Some b) = b == 43
