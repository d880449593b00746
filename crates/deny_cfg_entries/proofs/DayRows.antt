-- Texts and the days that they name, by the proleptic Gregorian calendar.
use Rattle.std.proofs.Common.{◌≡◌, [], codes, refl, None, Some, pos, negsuc}
use Rattle.jiff_core.specs.Calendar.{day_count, days_from_civil, days_of_months, days_of_years}
use Rattle.deny_cfg_entries.specs.Day.{day_in, day_of, has_form, is_day}
use Rattle.deny_cfg_entries.specs.RustVersion.{number_in}

-- days of the calendar: the first and the last that a text can name, the days about 1970, and leap days
pub named_days : (day_in (codes "2026-01-31") ≡ Some (pos 20_484))
    × (day_in (codes "2024-02-29") ≡ Some (pos 19_782))
    × (day_in (codes "2000-02-29") ≡ Some (pos 11_016))
    × (day_in (codes "1970-01-01") ≡ Some (pos 0))
    × (day_in (codes "1969-12-31") ≡ Some (negsuc 0))
    × (day_in (codes "0001-01-01") ≡ Some (negsuc 719_161))
    × (day_in (codes "9999-12-31") ≡ Some (pos 2_932_896))
unfolding day_in has_form number_in day_of is_day days_from_civil day_count days_of_years days_of_months
named_days = (refl, refl, refl, refl, refl, refl, refl)

-- days that the calendar does not have
pub no_days : (day_in (codes "2025-02-29") ≡ None) × (day_in (codes "2026-02-30") ≡ None)
    × (day_in (codes "1900-02-29") ≡ None) × (day_in (codes "2026-04-31") ≡ None)
    × (day_in (codes "2026-13-01") ≡ None) × (day_in (codes "2026-00-01") ≡ None)
    × (day_in (codes "2026-01-00") ≡ None)
unfolding day_in has_form number_in day_of is_day
no_days = (refl, refl, refl, refl, refl, refl, refl)

-- days in other forms: short parts, a time, signs, other dashes, no text
pub other_forms : (day_in (codes "2026-2-3") ≡ None) × (day_in (codes "2026-01-31T00:00:00") ≡ None)
    × (day_in (codes "+026-01-31") ≡ None) × (day_in (codes "2026-+1-31") ≡ None)
    × (day_in (codes "2026/01/31") ≡ None) × (day_in (codes "2026-01-3 ") ≡ None) × (day_in [] ≡ None)
unfolding day_in has_form number_in day_of is_day
other_forms = (refl, refl, refl, refl, refl, refl, refl)
