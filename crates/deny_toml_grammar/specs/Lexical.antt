-- The bytes of TOML and their classes, and the blanks between its parts.
use Rattle.std.specs.Prelude.{ℕ, Bool, true, false, not, ◌&&◌, ◌||◌, ◌==◌, ◌-◌, length, nat_le, if◌then◌else◌, List, []}
use Rattle.std.specs.Prelude.{◌∷◌, take, drop, slice_index, Option, Some, None, is_some, unwrap_or}
use Rattle.std.specs.List.{prefix_len}
use Rattle.std.specs.Char.{is_ascii_alphanumeric, is_ascii_digit}
use Rattle.deny_base.specs.declared.span.Span.{Span}

-- the result of a reader: what it has read and the text after it, or none where the text does not begin so
abbrev pub Read : Type 0 → Type 0
Read A = Option (A × List ℕ)

abbrev pub tab : ℕ
tab = 9

abbrev pub line_feed : ℕ
line_feed = 10

abbrev pub carriage_return : ℕ
carriage_return = 13

abbrev pub space : ℕ
space = 32

abbrev pub quote : ℕ
quote = 34

abbrev pub hash : ℕ
hash = 35

abbrev pub apostrophe : ℕ
apostrophe = 39

abbrev pub plus : ℕ
plus = 43

abbrev pub comma : ℕ
comma = 44

abbrev pub dash : ℕ
dash = 45

abbrev pub dot : ℕ
dot = 46

abbrev pub colon : ℕ
colon = 58

abbrev pub equals : ℕ
equals = 61

abbrev pub left_bracket : ℕ
left_bracket = 91

abbrev pub backslash : ℕ
backslash = 92

abbrev pub right_bracket : ℕ
right_bracket = 93

abbrev pub underscore : ℕ
underscore = 95

abbrev pub left_brace : ℕ
left_brace = 123

abbrev pub right_brace : ℕ
right_brace = 125

-- the first byte, or 0
abbrev pub first : List ℕ → ℕ
first text = slice_index text 0

-- a space or a tab
abbrev pub is_space : ℕ → Bool
is_space c = c == space || c == tab

-- a byte that a comment can hold: no control character but the tab; bytes from 128 on are part of a character past
-- ASCII
abbrev pub is_comment_byte : ℕ → Bool
is_comment_byte c = c == tab || (nat_le 32 c && not (c == 127))

-- a byte of a bare key
abbrev pub is_bare : ℕ → Bool
is_bare c = (is_ascii_alphanumeric c || c == dash) || c == underscore

-- a byte of an unquoted value: a boolean, a number or a date
abbrev pub is_token_byte : ℕ → Bool
is_token_byte c = ((is_bare c || c == plus) || c == dot) || c == colon

-- a byte of the digits of a decimal number with underscores between them
abbrev pub is_grouped : ℕ → Bool
is_grouped c = is_ascii_digit c || c == underscore

-- a byte that writes itself in a string with this delimiter, on one line or on several; only a string in quotes has
-- escapes
abbrev pub is_plain : ℕ → Bool → ℕ → Bool
is_plain delimiter multi c =
    (not (c == delimiter) && not (c == backslash && delimiter == quote)) &&
    (is_comment_byte c || (multi && c == line_feed))

-- the text begins with a line end
abbrev pub starts_newline : List ℕ → Bool
starts_newline text = first text == line_feed || (first text == carriage_return && slice_index text 1 == line_feed)

-- the longest prefix whose bytes pass the test, and the rest
abbrev pub split_while : (ℕ → Bool) → List ℕ → List ℕ × List ℕ
split_while p text = (take (prefix_len p text) text, drop (prefix_len p text) text)

-- the text after spaces and tabs
unfoldable pub skip_spaces : List ℕ → List ℕ
skip_spaces text = (split_while is_space text).1

-- whether a comment has begun after the byte c, which `next` follows, or `None` where c stops the run
abbrev pub skip_turn : Bool → Bool → ℕ → ℕ → Option Bool
skip_turn comments inside c next =
    if c == line_feed || (c == carriage_return && next == line_feed) then Some false
    else if (if inside then is_comment_byte c else is_space c) then Some inside
    else if (comments && not inside) && c == hash then Some true
    else None

-- the text after spaces, tabs and line ends, and after comments where they are allowed; `inside` says whether a comment
-- has begun
unfoldable pub skip_from : Bool → Bool → List ℕ → List ℕ
skip_from comments inside [] = []
skip_from comments inside (c ∷ cs) =
    if is_some (skip_turn comments inside c (first cs))
    then skip_from comments (unwrap_or (skip_turn comments inside c (first cs)) false) cs else c ∷ cs

-- the text after spaces, tabs and line ends
abbrev pub skip_lines : List ℕ → List ℕ
skip_lines text = skip_from false false text

-- the span from the offset of `from` to that of `rest`, both suffixes of a text of `total` bytes
abbrev pub between : ℕ → List ℕ → List ℕ → Span
between total from rest = record { start = total - length from; end = total - length rest }
