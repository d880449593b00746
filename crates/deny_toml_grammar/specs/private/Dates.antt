-- Dates and times.
use Rattle.std.specs.Prelude.{ℕ, ◌+◌, ◌-◌, ◌*◌, Bool, true, false, not, ◌&&◌, ◌||◌, ◌==◌, nat_le, if◌then◌else◌, List}
use Rattle.std.specs.Prelude.{length, drop, slice_index, Option, Some, None}
use Rattle.std.specs.List.{prefix_len}
use Rattle.std.specs.Char.{is_ascii_digit}
use Rattle.deny_toml_grammar.specs.Lexical.{plus, dash, dot, colon, space, first}

-- two digits are at this index, and write a number from `low` to `high`
abbrev pub has_number : List ℕ → ℕ → ℕ → ℕ → Bool
has_number cs at low high =
    (is_ascii_digit (slice_index cs at) && is_ascii_digit (slice_index cs (at + 1)))
    && (nat_le low ((slice_index cs at - 48) * 10 + (slice_index cs (at + 1) - 48)) && nat_le
    ((slice_index cs at - 48) * 10 + (slice_index cs (at + 1) - 48)) high)

-- whether a text begins with a date: four digits of the year, the month, the day
unfoldable pub starts_date : List ℕ → Bool
starts_date cs =
    ((has_number cs 0 0 99 && has_number cs 2 0 99) && (slice_index cs 4 == dash && has_number cs 5 1 12))
    && (slice_index cs 7 == dash && has_number cs 8 1 31)

-- whether a text begins with a time: hour, minute, second
unfoldable pub starts_time : List ℕ → Bool
starts_time cs =
    ((has_number cs 0 0 23 && slice_index cs 2 == colon) && has_number cs 3 0 59)
    && (slice_index cs 5 == colon && has_number cs 6 0 60)

-- the text after the fraction of a second, if there is one
abbrev pub after_fraction : List ℕ → Option (List ℕ)
after_fraction cs =
    if not (first cs == dot) then Some cs
    else if prefix_len is_ascii_digit (drop 1 cs) == 0 then None
    else Some (drop (prefix_len is_ascii_digit (drop 1 cs)) (drop 1 cs))

-- nothing, `Z`, or the offset from UTC in hours and minutes
abbrev pub is_offset : List ℕ → Bool
is_offset cs =
    if length cs == 1 then first cs == 90 || first cs == 122
    else ((length cs == 6 && (first cs == plus || first cs == dash)) && has_number cs 1 0 23) &&
    (slice_index cs 3 == colon && has_number cs 4 0 59)

abbrev pub ends_time : Bool → Option (List ℕ) → Bool
ends_time offset None = false
ends_time offset (Some cs) = length cs == 0 || (offset && is_offset cs)

-- a time with its fraction, and with an offset where a date precedes it
abbrev pub is_time : Bool → List ℕ → Bool
is_time offset cs = starts_time cs && ends_time offset (after_fraction (drop 8 cs))

-- the byte between a date and a time
abbrev pub is_divider : ℕ → Bool
is_divider c = (c == 84 || c == 116) || c == space

-- the text after a date: the byte between them, and a time
abbrev pub is_divided_time : List ℕ → Bool
is_divided_time cs = is_divider (slice_index cs 10) && is_time true (drop 11 cs)

-- a date, and a time with or without an offset after it
unfoldable pub is_date_time : List ℕ → Bool
is_date_time cs = starts_date cs && (length cs == 10 || is_divided_time cs)

-- one of the four forms of dates and times
abbrev pub is_date : List ℕ → Bool
is_date cs = is_date_time cs || is_time false cs
