-- Readers of strings.
use Rattle.std.specs.Prelude.{ℕ, ◌+◌, ◌-◌, ◌≤◌, Result, IfOk, zero, suc, Bool, true}
use Rattle.std.specs.Prelude.{false, ◌&&◌, ◌||◌, ◌==◌, nat_lt, nat_le, if◌then◌else◌, List, [], ◌∷◌, ◌++◌, length, take}
use Rattle.std.specs.Prelude.{drop, slice_index, encode_utf8, Option, Some, None, option_map}
use Rattle.std.specs.List.{prefix_len, list_all}
use Rattle.std.specs.Char.{is_digit}
use Rattle.std.specs.Str.Parse.{digits_value}
use Rattle.deny_base.specs.declared.span.Spanned.{Spanned}
use Rattle.deny_toml_grammar.specs.declared.parts.Scalar.{Scalar}
use Rattle.deny_toml_grammar.specs.declared.parts.Scalar.TheVariants.{Text, Multiline}
use Rattle.deny_toml_grammar.specs.Lexical.{Read, line_feed, carriage_return, tab, quote, backslash, first}
use Rattle.deny_toml_grammar.specs.Lexical.{is_plain, starts_newline, skip_spaces, skip_lines}
use Rattle.std.specs.Borrow.{Bor}
use Rattle.deny_toml_grammar.specs.declared.read_error.ReadError.{ReadError}
use Rattle.deny_toml_grammar.specs.private.Reading.{◌>>=◌, read_map}

-- the character that a letter writes after a backslash
abbrev pub letter_escape : ℕ → Option ℕ
letter_escape c =
    if c == 0x62 then Some 0x08
    else if c == 0x74 then Some tab
    else if c == 0x6E then Some line_feed
    else if c == 0x66 then Some 0x0C
    else if c == 0x72 then Some carriage_return
    else if c == quote || c == backslash then Some c
    else None

-- the number of hex digits after `u` and `U`
abbrev pub hex_len : ℕ → ℕ
hex_len c = if c == 0x75 then 4 else if c == 0x55 then 8 else 0

-- whether a number is a Unicode scalar value
abbrev pub is_scalar : ℕ → Bool
is_scalar c = nat_lt c 0xD800 || (nat_le 0xE000 c && nat_le c 0x10_FFFF)

-- whether hex digits write a character
abbrev pub writes_scalar : List ℕ → Bool
writes_scalar digits = list_all (λ c. is_digit c 16) digits && is_scalar (digits_value 16 digits)

-- the character that n hex digits write
unfoldable pub hex_escape : ℕ → List ℕ → Read ℕ
hex_escape n text =
    let digits = take n text in
    if nat_le n (length text) && writes_scalar digits then Some (digits_value 16 digits, drop n text) else None

-- the character of an escape, after its backslash
unfoldable pub escape_char : List ℕ → Read ℕ
escape_char text =
    if nat_lt 0 (hex_len (first text)) then hex_escape (hex_len (first text)) (drop 1 text)
    else option_map (λ c. (c, drop 1 text)) (letter_escape (first text))

-- the bytes of an escape, after its backslash; at the end of a line of a multi-line string it removes all white space
-- up to the next text
unfoldable pub escape : Bool → List ℕ → Read (List ℕ)
escape multi text =
    if multi && starts_newline (skip_spaces text) then Some ([], skip_lines text)
    else read_map encode_utf8 (escape_char text)

-- the bytes of a delimiter in a multi-line string: three end it, and one or two are text, also before the last three
abbrev pub at_delimiters : ℕ → List ℕ → Read (Option (List ℕ))
at_delimiters delimiter text =
    let count = prefix_len (λ c. c == delimiter) text in
    if count == 3 then Some (None, drop 3 text)
    else if nat_lt count 6 then Some (Some (delimiter ∷ []), drop 1 text)
    else None

-- the bytes that a byte which is not plain writes, or `None` at the end of the string
unfoldable pub special : ℕ → Bool → List ℕ → Read (Option (List ℕ))
special delimiter multi text =
    if first text == delimiter then (if multi then at_delimiters delimiter text else Some (None, drop 1 text))
    else if first text == backslash then read_map Some (escape multi (drop 1 text))
    else if multi && starts_newline text then Some (Some (first text ∷ []), drop 1 text)
    else None

-- the bytes of xs before those that were read
abbrev pub prepend : List ℕ → Read (List ℕ) → Read (List ℕ)
prepend prefix r = option_map (λ p. (prefix ++ p.0, p.1)) r

-- the content after a piece, or its end
abbrev pub after_piece : (List ℕ → Read (List ℕ)) → Option (List ℕ) → List ℕ → Read (List ℕ)
after_piece more None rest = Some ([], rest)
after_piece more (Some bytes) rest = prepend bytes (more rest)

-- the content up to the closing delimiters, which are read too, in fewer than n pieces
unfoldable pub content : ℕ → Bool → ℕ → List ℕ → Read (List ℕ)
content delimiter multi zero text = None
content delimiter multi (suc n) text =
    if is_plain delimiter multi (first text) then prepend (first text ∷ []) (content delimiter multi n (drop 1 text))
    else special delimiter multi text >>= (λ p. after_piece (content delimiter multi n) p.0 p.1)

-- the text without a line end at its start, as after the opening delimiters
abbrev pub trim_newline : List ℕ → List ℕ
trim_newline text =
    if first text == line_feed then drop 1 text else if starts_newline text then drop 2 text else text

-- the string that was read, whose content begins with `from` in a text of `total` bytes and ends this many delimiters
-- before the rest
abbrev pub spanned : ℕ → List ℕ → ℕ → (List ℕ × List ℕ) → Spanned (List ℕ) × List ℕ
spanned total from closing p = (
  record {
    value = p.0;
    span =
        record { start = total - length from; end = total - length p.1 - closing };
  },
  p.1,
)

-- a one-line string, from its delimiter on
unfoldable pub one_line : ℕ → List ℕ → Read (Spanned (List ℕ))
one_line total text = option_map (spanned total (drop 1 text) 1)
    (content (first text) false (length text) (drop 1 text))

-- a multi-line string, from its delimiters on
unfoldable pub multi_line : ℕ → List ℕ → Read (Spanned (List ℕ))
multi_line total text = option_map (spanned total (drop 3 text) 3)
    (content (first text) true (length text) (trim_newline (drop 3 text)))

-- a string of one of the two kinds, with its span
abbrev pub string_of : (List ℕ → Scalar) → Spanned (List ℕ) → Spanned Scalar
string_of kind s = record { value = kind s.value; span = s.span }

-- a string, from its delimiter on
unfoldable pub quoted : ℕ → List ℕ → Read (Spanned Scalar)
quoted total text =
    if slice_index text 1 == first text && slice_index text 2 == first text then read_map (string_of Multiline)
    (multi_line total text)
    else read_map (string_of Text) (one_line total text)

-- At least the closing delimiters were read.
abbrev pub Closes : {A : Type 0} → Bool → List ℕ → Result (A × Bor (List ℕ)) ReadError → Type 0
Closes multi text r = IfOk r (λ p. length p.1.now + (if multi then 3 else 1) ≤ length text)
