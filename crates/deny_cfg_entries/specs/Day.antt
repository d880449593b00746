-- Days of the calendar, as ten bytes write them.
use Rattle.std.specs.Prelude.{ℕ, ◌&&◌, ◌==◌, Bool, ℤ, pos, nat_le, List, length, take, drop, slice_index}
use Rattle.std.specs.Prelude.{Option, None, Some, if◌then◌else◌}
use Rattle.jiff_core.specs.Calendar.{days_from_civil, days_in_month}
use Rattle.deny_cfg_entries.specs.RustVersion.{number_in}

-- whether the calendar has this year, month and day
unfoldable pub is_day : ℕ → ℕ → ℕ → Bool
is_day year month day =
    (nat_le 1 month && nat_le month 12) && (nat_le 1 day && nat_le day (days_in_month (pos year) month))

-- the number of a day that the calendar has: 1970-01-01 is 0
unfoldable pub day_of : ℕ → ℕ → ℕ → Option ℤ
day_of year month day = if is_day year month day then Some (days_from_civil (pos year) month day) else None

-- the number of the day that a year, a month and a day name, if each of them is a number
abbrev pub day_named : Option ℕ → Option ℕ → Option ℕ → Option ℤ
day_named (Some year) (Some month) (Some day) = day_of year month day
day_named _ _ _ = None

-- whether a text is ten bytes with `-` at places 4 and 7
unfoldable pub has_form : List ℕ → Bool
has_form text = (length text == 10) && ((slice_index text 4 == 45) && (slice_index text 7 == 45))

-- the number of the day that a text names: digits, with `-` between year, month and day
unfoldable pub day_in : List ℕ → Option ℤ
day_in text =
    if has_form text
    then day_named (number_in (take 4 text)) (number_in (take 2 (drop 5 text))) (number_in (take 2 (drop 8 text)))
    else None
