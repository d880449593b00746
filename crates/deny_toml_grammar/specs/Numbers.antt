-- Integers and floats.
use Rattle.std.specs.Prelude.{ℕ, ℤ, pos, neg_ℤ, ◌+◌, ◌*◌, ◌^◌, Bool, true, false, not, ◌&&◌, ◌||◌, ◌==◌, nat_lt, nat_le}
use Rattle.std.specs.Prelude.{if◌then◌else◌, List, [], ◌∷◌, length, drop, slice_index, filter, codes, Option, Some}
use Rattle.std.specs.Prelude.{None, option_and_then}
use Rattle.std.specs.List.{list_all}
use Rattle.std.specs.Char.{is_digit, digit_value}
use Rattle.std.specs.Str.{bytes_eq}
use Rattle.std.specs.Str.Parse.{digits_value_after}
use Rattle.deny_toml_grammar.specs.Lexical.{plus, dash, dot, underscore, first, is_grouped, split_while}

abbrev pub is_decimal_digit : ℕ → Bool
is_decimal_digit c = is_digit c 10

-- the digits of a base, with single underscores between them; `after_digit` says whether a digit precedes
abbrev pub groups : (ℕ → Bool) → Bool → List ℕ → Bool
groups p after_digit [] = after_digit
groups p after_digit (c ∷ cs) = if p c then groups p true cs else if after_digit && c == underscore then groups p false
    cs else false

-- at least one digit, with each underscore between two digits
abbrev pub are_digits : (ℕ → Bool) → List ℕ → Bool
are_digits p cs = groups p false cs

-- the digits without the underscores
abbrev pub digits_alone : List ℕ → List ℕ
digits_alone cs = filter (λ c. not (c == underscore)) cs

-- the number that digits write after those of `value`, if it is at most 2^63 and each byte is a digit or an underscore
abbrev pub bounded_after : ℕ → ℕ → List ℕ → Option ℕ
bounded_after radix value cs =
    let n = digits_value_after radix value (digits_alone cs) in
    if list_all (λ c. is_digit c radix) (digits_alone cs) && nat_le n (2 ^ 63) then Some n else None

abbrev pub bounded_value : ℕ → List ℕ → Option ℕ
bounded_value radix cs = bounded_after radix 0 cs

-- a number with its sign, if it fits 64 bits
abbrev pub signed : Bool → ℕ → Option ℤ
signed negative n =
    if negative then (if nat_le n (2 ^ 63) then Some (neg_ℤ (pos n)) else None)
    else if nat_lt n (2 ^ 63) then Some (pos n) else None

-- the base that the prefix `0x`, `0o` or `0b` names, or 10
abbrev pub radix_of : List ℕ → ℕ
radix_of token =
    if not (first token == 48) then 10
    else if slice_index token 1 == 120 then 16
    else if slice_index token 1 == 111 then 8
    else if slice_index token 1 == 98 then 2
    else 10

-- the integer that the digits of another base write, after the prefix
unfoldable pub prefixed_integer : ℕ → List ℕ → Option ℤ
prefixed_integer radix digits = if are_digits (λ c. is_digit c radix) digits then option_and_then (signed false)
    (bounded_value radix digits) else None

-- the digits of a decimal number, without a leading zero
abbrev pub is_decimal : List ℕ → Bool
is_decimal digits = are_digits is_decimal_digit digits && (length digits == 1 || not (first digits == 48))

-- a decimal integer after its sign
unfoldable pub decimal_integer : Bool → List ℕ → Option ℤ
decimal_integer negative digits = if is_decimal digits then option_and_then (signed negative) (bounded_value 10 digits)
    else None

abbrev pub has_sign : List ℕ → Bool
has_sign token = first token == plus || first token == dash

abbrev pub without_sign : List ℕ → List ℕ
without_sign token = if has_sign token then drop 1 token else token

-- an integer in any base
unfoldable pub integer : List ℕ → Option ℤ
integer token =
    if radix_of token == 10 then decimal_integer (first token == dash) (without_sign token)
    else prefixed_integer (radix_of token) (drop 2 token)

-- `e` and digits, with a sign or without
abbrev pub is_exponent : List ℕ → Bool
is_exponent cs = (first cs == 101 || first cs == 69) && are_digits is_decimal_digit (without_sign (drop 1 cs))

abbrev pub is_exponent_or_end : List ℕ → Bool
is_exponent_or_end cs = length cs == 0 || is_exponent cs

-- digits, and then an exponent or nothing
abbrev pub are_decimals : List ℕ → Bool
are_decimals cs =
    let parts = split_while is_grouped cs in
    are_digits is_decimal_digit parts.0 && is_exponent_or_end parts.1

-- a point and digits, and then an exponent or nothing
abbrev pub is_fraction : List ℕ → Bool
is_fraction cs = first cs == dot && are_decimals (drop 1 cs)

-- a float after its sign
unfoldable pub is_unsigned_float : List ℕ → Bool
is_unsigned_float cs =
    let parts = split_while is_grouped cs in
    (bytes_eq cs (codes "inf") || bytes_eq cs (codes "nan")) ||
    (is_decimal parts.0 && (is_fraction parts.1 || is_exponent parts.1))

-- a float
abbrev pub is_float : List ℕ → Bool
is_float token = is_unsigned_float (without_sign token)

-- the value of a number with one more byte
unfoldable pub next_value : ℕ → ℕ → ℕ → Option ℕ
next_value radix value c =
    if c == underscore then Some value
    else if is_digit c radix && nat_le (value * radix + digit_value c) (2 ^ 63) then Some
    (value * radix + digit_value c)
    else None
