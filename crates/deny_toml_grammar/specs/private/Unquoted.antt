-- Unquoted values: booleans, numbers and dates.
use Rattle.std.specs.Prelude.{ℕ, ◌+◌, true, false, ◌&&◌, ◌==◌, nat_lt, if◌then◌else◌, List, take, drop, slice_index}
use Rattle.std.specs.Prelude.{codes, Option, Some, None, option_map}
use Rattle.std.specs.List.{prefix_len}
use Rattle.std.specs.Char.{is_ascii_digit}
use Rattle.std.specs.Str.{bytes_eq}
use Rattle.deny_toml_grammar.specs.declared.parts.Scalar.{Scalar}
use Rattle.deny_toml_grammar.specs.declared.parts.Scalar.TheVariants.{Integer, Float, Boolean, Date}
use Rattle.deny_toml_grammar.specs.Lexical.{Read, space, is_token_byte}
use Rattle.deny_toml_grammar.specs.Numbers.{integer, is_float}
use Rattle.deny_toml_grammar.specs.private.Dates.{is_date}

-- the value that a whole token writes
unfoldable pub token_value : List ℕ → Option Scalar
token_value token =
    if bytes_eq token (codes "true") then Some (Boolean true)
    else if bytes_eq token (codes "false") then Some (Boolean false)
    else if is_date token then Some (Date token)
    else if is_float token then Some (Float token)
    else option_map Integer (integer token)

-- the length of the token at the start, where a space before a digit joins a date and a time
unfoldable pub token_len : List ℕ → ℕ
token_len text =
    let len = prefix_len is_token_byte text in
    if nat_lt 0 len && (slice_index text len == space && is_ascii_digit (slice_index text (len + 1)))
    then len + 1 + prefix_len is_token_byte (drop (len + 1) text) else len

-- the unquoted value at the start
unfoldable pub unquoted : List ℕ → Read Scalar
unquoted text =
    if token_len text == 0 then None
    else option_map (λ value. (value, drop (token_len text) text)) (token_value (take (token_len text) text))
