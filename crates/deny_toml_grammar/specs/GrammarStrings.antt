-- The grammar of strings: which bytes write which text.
use Rattle.std.specs.Prelude.{ℕ, ◌+◌, ◌<◌, ◌≡◌, Bool, true, false, ◌||◌, ◌==◌, List, [], ◌∷◌, ◌++◌, length, encode_utf8}
use Rattle.std.specs.Prelude.{Some}
use Rattle.std.specs.List.{list_all}
use Rattle.std.specs.Str.Parse.{digits_value}
use Rattle.deny_base.specs.declared.span.Span.{Span}
use Rattle.deny_toml_grammar.specs.declared.parts.Scalar.{Scalar}
use Rattle.deny_toml_grammar.specs.declared.parts.Scalar.TheVariants.{Text, Multiline}
use Rattle.deny_toml_grammar.specs.Expression.{span_of}
use Rattle.deny_toml_grammar.specs.Lexical.{is_space, is_comment_byte, is_plain, first, starts_newline}
use Rattle.deny_toml_grammar.specs.Strings.{letter_escape, writes_scalar}

-- spaces and tabs
abbrev pub AreSpaces : List ℕ → Type 0
AreSpaces cs = list_all is_space cs ≡ true

-- a line feed, alone or after a carriage return
pub data IsNewline : List ℕ → Type 0 where
  line_feed : IsNewline (10 ∷ [])
  both : IsNewline (13 ∷ 10 ∷ [])

-- spaces, tabs and line ends, and comments with their line ends where these are allowed
pub data IsBlank (comments : Bool) : List ℕ → Type 0 where
  none : IsBlank comments []
  space : (c : ℕ) (cs : List ℕ) → is_space c ≡ true → IsBlank comments cs → IsBlank comments (c ∷ cs)
  newline : (end cs : List ℕ) → IsNewline end → IsBlank comments cs → IsBlank comments (end ++ cs)
  comment : (body end cs : List ℕ) → comments ≡ true → list_all is_comment_byte body ≡ true → IsNewline end
      → IsBlank comments cs
      → IsBlank comments (35 ∷ (body ++ (end ++ cs)))

-- the text of an escape after its backslash, and the character that it writes
pub data IsEscape : List ℕ → ℕ → Type 0 where
  letter : (c v : ℕ) → letter_escape c ≡ Some v → IsEscape (c ∷ []) v
  short : (digits : List ℕ) → length digits ≡ 4 → writes_scalar digits ≡ true
      → IsEscape (117 ∷ digits) (digits_value 16 digits)
  long : (digits : List ℕ) → length digits ≡ 8 → writes_scalar digits ≡ true
      → IsEscape (85 ∷ digits) (digits_value 16 digits)

-- The text neither begins with white space nor with a line end.
pub record IsInk (cs : List ℕ) : Type 0 where
  pub no_space : is_space (first cs) ≡ false
  pub no_newline : starts_newline cs ≡ false

-- the content of a one-line or multi-line string and the bytes that it writes, where this many delimiters precede it
pub data IsContent (delimiter : ℕ) (multi : Bool) : ℕ → List ℕ → List ℕ → Type 0 where
  end : (before : ℕ) → IsContent delimiter multi before [] []
  plain : (before c : ℕ) (cs vs : List ℕ) → is_plain delimiter multi c ≡ true → IsContent delimiter multi 0 cs vs
      → IsContent delimiter multi before (c ∷ cs) (c ∷ vs)
  -- a line end of two bytes stays as it is
  newline : (before : ℕ) (cs vs : List ℕ) → multi ≡ true → IsContent delimiter multi 0 cs vs
      → IsContent delimiter multi before (13 ∷ (10 ∷ cs)) (13 ∷ (10 ∷ vs))
  -- one or two delimiters are text
  quotes : (before : ℕ) (cs vs : List ℕ) → multi ≡ true → before < 2 → IsContent delimiter multi (before + 1) cs vs
      → IsContent delimiter multi before (delimiter ∷ cs) (delimiter ∷ vs)
  escape : (before c : ℕ) (escaped cs vs : List ℕ) → delimiter ≡ 34 → IsEscape escaped c
      → IsContent delimiter multi 0 cs vs
      → IsContent delimiter multi before (92 ∷ (escaped ++ cs)) (encode_utf8 c ++ vs)
  -- a backslash at the end of a line removes the blanks up to the next ink or the closing delimiters
  cut : (before : ℕ) (spaces end blank cs vs : List ℕ) → multi ≡ true → delimiter ≡ 34 → AreSpaces spaces
      → IsNewline end → IsBlank false blank
      → IsInk cs → IsContent delimiter multi 0 cs vs → IsContent delimiter multi before
      (92 ∷ (spaces ++ (end ++ (blank ++ cs)))) vs

-- a quote or an apostrophe
abbrev pub is_delimiter : ℕ → Bool
is_delimiter c = c == 34 || c == 39

-- a one-line string at an offset, the bytes that it writes, and the span between its delimiters
pub data IsOneLine (at : ℕ) : List ℕ → List ℕ → Span → Type 0 where
  quoted : (delimiter : ℕ) (cs vs : List ℕ) → is_delimiter delimiter ≡ true → IsContent delimiter false 0 cs vs
      → IsOneLine at (delimiter ∷ (cs ++ delimiter ∷ [])) vs (span_of (at + 1) (length cs))

-- the line end right after the opening delimiters, which is left out, or nothing
pub data IsOpening : List ℕ → List ℕ → Type 0 where
  same_line : (cs : List ℕ) → starts_newline cs ≡ false → IsOpening [] cs
  next_line : (end cs : List ℕ) → IsNewline end → IsOpening end cs

-- a multi-line string at an offset, the bytes that it writes, and the span between its delimiters
pub data IsMultiLine (at : ℕ) : List ℕ → List ℕ → Span → Type 0 where
  framed : (delimiter : ℕ) (opening cs vs : List ℕ) → is_delimiter delimiter ≡ true → IsOpening opening cs
      → IsContent delimiter true 0 cs vs
      → IsMultiLine at (delimiter ∷ (delimiter ∷ (delimiter ∷
      (opening ++ (cs ++ delimiter ∷ (delimiter ∷ (delimiter ∷ []))))))) vs
      (span_of (at + 3) (length opening + length cs))

-- a string at an offset, of one of the two kinds
pub data IsText (at : ℕ) : List ℕ → Scalar → Span → Type 0 where
  one_line : (cs vs : List ℕ) (span : Span) → IsOneLine at cs vs span → IsText at cs (Text vs) span
  multi_line : (cs vs : List ℕ) (span : Span) → IsMultiLine at cs vs span → IsText at cs (Multiline vs) span
