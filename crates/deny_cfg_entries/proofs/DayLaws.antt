-- The numbers of a day's text, and the number of its day.
use Rattle.std.proofs.Common.{◌≡◌, ◌<◌, ◌^◌, ℕ, Bool, true, false, List, [], ◌∷◌, length, None, Some, pos}
use Rattle.std.proofs.Common.{refl, ap, subst, arith, unsigned_abs}
use Rattle.std.proofs.lemmas.Bool.{and_parts, le-leb}
use Rattle.std.proofs.lemmas.Bool.Decides.{nat_tests}
use Rattle.std.proofs.lemmas.Int.Digits.{digits_value-lt}
use Rattle.std.specs.Char.{is_digit}
use Rattle.std.specs.List.{list_all}
use Rattle.std.specs.Str.Parse.{AllDigits}
use Rattle.jiff_core.specs.Calendar.{IsCivilDate, IsDate, days_in_month}
use Rattle.jiff_core.specs.Date.{IsYmd, epoch_day}
use Rattle.jiff_core.specs.declared.civil.date.Date.{Date}
use Rattle.jiff_core.proofs.SignedLemmas.{signed_arith}
use Rattle.deny_cfg_entries.specs.Day.{day_of, is_day}
use Rattle.deny_cfg_entries.specs.RustVersion.{number_in}

are_digits : (digits : List ℕ) → list_all (λ c. is_digit c 10) digits ≡ true → AllDigits 10 digits
are_digits [] all = tt
are_digits (d ∷ ds) all =
    let parts = and_parts (is_digit d 10) (list_all (λ c. is_digit c 10) ds) all in
    (grind (arith, nat_tests), are_digits ds parts.1)

-- a number of so many digits
pub number_below : (text : List ℕ) (number size : ℕ) → length text ≡ size → number_in text ≡ Some number
    → number < 10 ^ size
unfolding number_in
number_below [] number size long is = absurd (cc is)
number_below (d ∷ ds) number size long is = by_digits (list_all (λ c. is_digit c 10) (d ∷ ds)) refl
  where
    by_digits : (all : Bool) → list_all (λ c. is_digit c 10) (d ∷ ds) ≡ all → number < 10 ^ size
    by_digits true all =
        let below = digits_value-lt 10 (d ∷ ds) (are_digits (d ∷ ds) all) in
        subst (λ n. number < 10 ^ n) long (grind (arith, nat_tests))
    by_digits false all = grind (arith, nat_tests)

date_is_civil : (year month day : ℕ) → IsDate (pos year) (pos month) (pos day) → IsCivilDate (pos year) month day
date_is_civil year month day is = (
  is.0,
  (omega (arith, signed_arith), omega (arith, signed_arith)),
  (omega (arith, signed_arith), omega (arith, signed_arith)),
)

civil_is_date : (year month day : ℕ) → IsCivilDate (pos year) month day → IsDate (pos year) (pos month) (pos day)
civil_is_date year month day is = (
  is.0,
  (omega (arith, signed_arith), omega (arith, signed_arith)),
  (omega (arith, signed_arith), omega (arith, signed_arith)),
)

day_is_civil : (year month day : ℕ) → year < 10_000 → is_day year month day ≡ true → IsCivilDate (pos year) month day
unfolding is_day
day_is_civil year month day small is = (
  (omega (arith, signed_arith), omega (arith, signed_arith)),
  (grind (arith, nat_tests), grind (arith, nat_tests)),
  (grind (arith, nat_tests), grind (arith, nat_tests)),
)

civil_is_day : (year month day : ℕ) → IsCivilDate (pos year) month day → is_day year month day ≡ true
unfolding is_day
civil_is_day year month day is =
    rw (
      le-leb 1 month is.1.0,
      le-leb month 12 is.1.1,
      le-leb 1 day is.2.0,
      le-leb day (days_in_month (pos year) month) is.2.1,
    ) refl

-- the date of three numbers has the number of the day that they name
pub day_of_date : (year month day : ℕ) (date : Date) → IsDate (pos year) (pos month) (pos day)
    → IsYmd (pos year) (pos month) (pos day) date → Some (epoch_day date) ≡ day_of year month day
unfolding day_of
day_of_date year month day date is has =
    rw (
      civil_is_day year month day (date_is_civil year month day is),
      has.0,
      ap unsigned_abs has.1,
      ap unsigned_abs has.2,
    ) refl

-- numbers without a date name no day
pub day_of_no_date : (year month day : ℕ) → year < 10_000 → (IsDate (pos year) (pos month) (pos day) → ⊥)
    → None ≡ day_of year month day
unfolding day_of
day_of_no_date year month day small none = by_day (is_day year month day) refl
  where
    by_day : (is : Bool) → is_day year month day ≡ is → None ≡ day_of year month day
    by_day false is = rw is refl
    by_day true is = absurd (none (civil_is_date year month day (day_is_civil year month day small is)))
