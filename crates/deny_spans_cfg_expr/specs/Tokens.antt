-- The tokens of an expression on targets.
use Rattle.std.specs.Prelude.{◌≡◌, ◌==◌, ◌||◌, ◌&&◌, ℕ, nat_le, nat_lt, nat_eq, Bool, true, if◌then◌else◌, List, []}
use Rattle.std.specs.Prelude.{◌∷◌, length, take, drop, Option, Some, None, option_map, codes}
use Rattle.std.specs.List.{prefix_len, position_or_len, before_first, after_first}
use Rattle.std.specs.Cmp.Lexicographic.{pointwise}
unfoldable pub use Rattle.deny_base_lists.specs.Blanks.{is_blank}
use Rattle.deny_spans_cfg_expr.specs.declared.token.CfgToken.{CfgToken}
use Rattle.deny_spans_cfg_expr.specs.declared.token.CfgToken.TheVariants.{Name, All, Any, Not, Quoted, Equals}
use Rattle.deny_spans_cfg_expr.specs.declared.token.CfgToken.TheVariants.{Comma, Open, Close}

-- an ASCII letter or '_'
unfoldable pub is_name_start : ℕ → Bool
is_name_start b = (nat_le 97 b && nat_le b 122) || (nat_le 65 b && nat_le b 90) || b == 95

-- an ASCII letter, '_' or an ASCII digit
unfoldable pub is_name_byte : ℕ → Bool
is_name_byte b = is_name_start b || (nat_le 48 b && nat_le b 57)

abbrev pub is_quote : ℕ → Bool
is_quote b = nat_eq b 34

-- the token of a word: three words are no names
unfoldable pub word_token : List ℕ → CfgToken
word_token word =
    if pointwise nat_eq word (codes "all") then All
    else (if pointwise nat_eq word (codes "any") then Any
    else (if pointwise nat_eq word (codes "not") then Not else Name word))

-- the longest word at the start, and the text after it
unfoldable pub word_first : List ℕ → Option (CfgToken × List ℕ)
word_first text = Some (word_token (take (prefix_len is_name_byte text) text), drop (prefix_len is_name_byte text) text)

-- the text up to the first quote, without escapes, and the text after it; none where there is no quote
unfoldable pub quoted_first : List ℕ → Option (CfgToken × List ℕ)
quoted_first text =
    if nat_lt (position_or_len is_quote text) (length text)
    then Some (Quoted (before_first is_quote text), after_first is_quote text) else None

-- the token of a mark
unfoldable pub mark_token : ℕ → Option CfgToken
mark_token b =
    if b == 61 then Some Equals
    else (if b == 44 then Some Comma
    else (if b == 40 then Some Open
    else (if b == 41 then Some Close else None)))

-- the mark that the first byte is, and the text after it
unfoldable pub mark_first : ℕ → List ℕ → Option (CfgToken × List ℕ)
mark_first b rest = option_map (λ token. (token, rest)) (mark_token b)

-- the token at the start of the text, and the text after it
unfoldable pub first_token : List ℕ → Option (CfgToken × List ℕ)
first_token [] = None
first_token (b ∷ bytes) =
    if is_name_start b then word_first (b ∷ bytes)
    else (if is_quote b then quoted_first bytes else mark_first b bytes)

-- the tokens of the text, with blanks before and after them
pub data HasTokens : List ℕ → List CfgToken → Type 0 where
  none : HasTokens [] []
  blank : (b : ℕ) {text : List ℕ} {tokens : List CfgToken} → is_blank b ≡ true → HasTokens text tokens
      → HasTokens (b ∷ text) tokens
  more : {text rest : List ℕ} {token : CfgToken} {tokens : List CfgToken} → first_token text ≡ Some (token, rest)
      → HasTokens rest tokens → HasTokens text (token ∷ tokens)
