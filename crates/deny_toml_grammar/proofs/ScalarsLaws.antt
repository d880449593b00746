-- The value of an unquoted token is the one of the grammar.
use Rattle.std.proofs.Common.{◌≡◌, ℕ, ℤ, suc, ◌+◌, Bool, true, false, not, ◌&&◌, ◌||◌, ◌==◌, List, [], ◌∷◌, ◌++◌}
use Rattle.std.proofs.Common.{length, take, drop, Option, Some, None, option_map, refl, sym, subst, ◌∙◌, inl, inr}
use Rattle.std.proofs.Common.{arith, append-nil, drop_at}
use Rattle.std.proofs.lemmas.Option.{none-some, same_Some}
use Rattle.std.proofs.lemmas.Bool.{cases_Bool, and_parts, true≢false}
use Rattle.std.proofs.lemmas.Bool.Decides.{nat_tests}
use Rattle.std.specs.List.{prefix_len}
use Rattle.std.specs.Char.{is_digit, is_ascii_digit}
use Rattle.std.specs.Prelude.{codes}
use Rattle.std.specs.Str.{bytes_eq}
use Rattle.deny_toml_grammar.specs.declared.parts.Scalar.{Scalar}
use Rattle.deny_toml_grammar.specs.declared.parts.Scalar.TheVariants.{Integer, Float, Boolean, Date}
use Rattle.deny_toml_grammar.specs.Lexical.{first, is_grouped}
use Rattle.deny_toml_grammar.specs.Numbers.{integer, is_float, is_unsigned_float, is_decimal, is_fraction}
use Rattle.deny_toml_grammar.specs.private.Dates.{is_date}
use Rattle.deny_toml_grammar.specs.private.Unquoted.{token_value}
use Rattle.deny_toml_grammar.specs.GrammarScalars.{IsDigits, IsDecimal, IsSign, IsInteger, IsExponent, IsFloat, IsTwo}
use Rattle.deny_toml_grammar.specs.GrammarScalars.{StartsDate, StartsTime, IsDate, IsScalar}
use Rattle.deny_toml_grammar.specs.GrammarScalars as grammar
use Rattle.deny_toml_grammar.proofs.LexicalLaws.{prefix_len-run}
use Rattle.deny_toml_grammar.proofs.DigitsLaws.{sign-complete, no_sign, decimal_first, decimal-digits, integer-sound}
use Rattle.deny_toml_grammar.proofs.DigitsLaws.{integer-complete}
use Rattle.deny_toml_grammar.proofs.FloatsLaws.{same_bytes, grouped_all, not_special, first_of, float-sound}
use Rattle.deny_toml_grammar.proofs.FloatsLaws.{float-complete}
use Rattle.deny_toml_grammar.proofs.DatesLaws.{date_is-sound, date_is-complete}

-- the index after the digits at the start
abbrev after_digits : List ℕ → ℕ
after_digits cs = first (drop (prefix_len is_ascii_digit cs) cs)

-- digits at the start with a dash or a colon after them, as in dates and in no number
abbrev dated : List ℕ → Bool
dated cs = is_ascii_digit (first cs) && (after_digits cs == 45 || after_digits cs == 58)

two_digits : (low high a b : ℕ) → IsTwo low high a b → (is_ascii_digit a ≡ true) × (is_ascii_digit b ≡ true)
two_digits low high a b (grammar.two _ _ tens ones above below) = (tens, ones)

date_dated : (rest cs : List ℕ) → StartsDate rest cs → dated cs ≡ true
date_dated rest cs (grammar.ymd a b c d e f g h century years months days) =
    let (one_, two_) = two_digits 0 99 a b century in
    let (three_, four_) = two_digits 0 99 c d years in
    rw (one_, two_, three_, four_) refl

time_dated : (rest cs : List ℕ) → StartsTime rest cs → dated cs ≡ true
time_dated rest cs (grammar.hms a b c d e f hours minutes seconds) =
    let (one_, two_) = two_digits 0 23 a b hours in
    rw (one_, two_) refl

dates_dated : (cs : List ℕ) → IsDate cs → dated cs ≡ true
dates_dated cs (grammar.day _ is) = date_dated [] cs is
dates_dated cs (grammar.moment c _ time_ rest offset is divides is_time_ is_fraction is_offset_) =
    date_dated (c ∷ time_) cs is
dates_dated cs (grammar.hour _ rest is is_fraction) = time_dated rest cs is

-- whether a byte ends the digits of a number
abbrev ends_digits : ℕ → Bool
ends_digits c = not (is_ascii_digit c) && (not (c == 45) && not (c == 58))

after_is : (cs rest : List ℕ) → IsDigits 10 cs → ends_digits (first rest) ≡ true
    → ends_digits (after_digits (cs ++ rest)) ≡ true
after_is cs rest (grammar.one c here) ends =
    let digit : is_ascii_digit c ≡ true = grind (arith, nat_tests) in
    rw digit (none rest ends)
  where
    none : (rest : List ℕ) → ends_digits (first rest) ≡ true
        → ends_digits (first (drop (1 + prefix_len is_ascii_digit rest) (c ∷ rest))) ≡ true
    none [] ends = refl
    none (d ∷ ds) ends = let stop : is_ascii_digit d ≡ false = grind (arith, nat_tests) in rw stop ends
after_is cs rest (grammar.more c cs' here is) ends =
    let digit : is_ascii_digit c ≡ true = grind (arith, nat_tests) in
    let next : 1 + prefix_len is_ascii_digit (cs' ++ rest) ≡ suc (prefix_len is_ascii_digit (cs' ++ rest)) =
    omega arith in
    rw (digit, next) (after_is cs' rest is ends)
after_is cs rest (grammar.spaced c cs' here is) ends =
    let digit : is_ascii_digit c ≡ true = grind (arith, nat_tests) in
    rw digit refl

not_dated : (cs : List ℕ) → ends_digits (after_digits cs) ≡ true → dated cs ≡ false
not_dated cs e = elim (cases_Bool (is_ascii_digit (first cs)))
    [ inl digit ↦ rw digit (neither (after_digits cs) e) | inr other ↦ rw other refl ]
  where
    neither : (c : ℕ) → ends_digits c ≡ true → (c == 45 || c == 58) ≡ false
    neither c e = grind (arith, nat_tests)

number_not_dated : (sign whole rest : List ℕ) (negative : Bool) → IsSign sign negative → IsDecimal whole
    → ends_digits (first rest) ≡ true → dated (sign ++ (whole ++ rest)) ≡ false
number_not_dated sign whole rest negative grammar.none is ends =
    not_dated (whole ++ rest) (after_is whole rest (decimal-digits whole is) ends)
number_not_dated sign whole rest negative grammar.plus is ends = refl
number_not_dated sign whole rest negative grammar.minus is ends = refl

exponent_ends : (cs : List ℕ) → IsExponent cs → ends_digits (first cs) ≡ true
exponent_ends cs (grammar.exponent c sign digits negative (inl e) is_sign is) = grind (arith, nat_tests)
exponent_ends cs (grammar.exponent c sign digits negative (inr e) is_sign is) = grind (arith, nat_tests)

signed_not_dated : (sign cs : List ℕ) (negative : Bool) → IsSign sign negative → is_ascii_digit (first cs) ≡ false
    → dated (sign ++ cs) ≡ false
signed_not_dated sign cs negative grammar.none other = rw other refl
signed_not_dated sign cs negative grammar.plus other = refl
signed_not_dated sign cs negative grammar.minus other = refl

integer_not_dated : (cs : List ℕ) (z : ℤ) → IsInteger cs z → dated cs ≡ false
integer_not_dated cs z (grammar.decimal sign whole negative _ is_sign is value_is) =
    rw append-nil at (number_not_dated sign whole [] negative is_sign is refl)
integer_not_dated cs z (grammar.hexadecimal digits _ is value_is) = refl
integer_not_dated cs z (grammar.octal digits _ is value_is) = refl
integer_not_dated cs z (grammar.binary digits _ is value_is) = refl

float_not_dated : (cs : List ℕ) → IsFloat cs → dated cs ≡ false
float_not_dated cs (grammar.fraction sign whole decimals negative is_sign is is') =
    number_not_dated sign whole (46 ∷ decimals) negative is_sign is refl
float_not_dated cs (grammar.scaled sign whole scale negative is_sign is is_scale) =
    number_not_dated sign whole scale negative is_sign is (exponent_ends scale is_scale)
float_not_dated cs (grammar.both sign whole decimals scale negative is_sign is is' is_scale) =
    number_not_dated sign whole (46 ∷ (decimals ++ scale)) negative is_sign is refl
float_not_dated cs (grammar.infinity sign negative is_sign) = signed_not_dated sign (codes "inf") negative is_sign refl
float_not_dated cs (grammar.not_a_number sign negative is_sign) =
    signed_not_dated sign (codes "nan") negative is_sign refl

no_date : (cs : List ℕ) → dated cs ≡ false → is_date cs ≡ false
no_date cs e = elim (cases_Bool (is_date cs)) [
  | inl is ↦ absurd
      (true≢false (sym (dates_dated cs (date_is-sound cs is)) ∙ e))
  | inr none ↦ none
]

-- an integer of the grammar is no float
integer_no_float : (cs : List ℕ) (z : ℤ) → IsInteger cs z → is_float cs ≡ false
unfolding is_unsigned_float
integer_no_float cs z (grammar.decimal sign whole negative _ is_sign is value_is) =
    let (rest_is, _) = sign-complete sign whole negative is_sign (no_sign whole (decimal_first whole is)) in
    let run : prefix_len is_grouped (whole ++ []) ≡ length whole =
    prefix_len-run is_grouped whole [] (grouped_all whole (decimal-digits whole is)) refl in
    let run' : prefix_len is_grouped whole ≡ length whole = rw append-nil at run in
    let back : drop (length whole) whole ≡ [] = rw append-nil at (drop_at whole [] _ refl) in
    rw (rest_is, not_special whole (decimal_first whole is), run', back)
    (and_false (is_decimal (take (length whole) whole)))
  where
    and_false : (b : Bool) → (b && false) ≡ false
    and_false true = refl
    and_false false = refl
integer_no_float cs z (grammar.hexadecimal digits _ is value_is) = refl
integer_no_float cs z (grammar.octal digits _ is value_is) = refl
integer_no_float cs z (grammar.binary digits _ is value_is) = refl

-- a text that begins with neither t nor f is neither `true` nor `false`
no_boolean : (cs : List ℕ) → ((first cs == 116) || (first cs == 102)) ≡ false → (bytes_eq cs (codes "true") ≡ false)
    × (bytes_eq cs (codes "false") ≡ false)
no_boolean [] e = (refl, refl)
no_boolean (c ∷ cs) e =
    let not_t : (c == 116) ≡ false = grind (arith, nat_tests) in
    let not_f : (c == 102) ≡ false = grind (arith, nat_tests) in
    (rw not_t refl, rw not_f refl)

digit_no_letter : (c : ℕ) → is_digit c 10 ≡ true → ((c == 116) || (c == 102)) ≡ false
digit_no_letter c e = grind (arith, nat_tests)

signed_no_letter : (sign cs : List ℕ) (negative : Bool) → IsSign sign negative
    → ((first cs == 116) || (first cs == 102)) ≡ false → ((first (sign ++ cs) == 116) || (first (sign ++ cs) == 102)) ≡
    false
signed_no_letter sign cs negative grammar.none e = e
signed_no_letter sign cs negative grammar.plus e = refl
signed_no_letter sign cs negative grammar.minus e = refl

integer_no_letter : (cs : List ℕ) (z : ℤ) → IsInteger cs z → ((first cs == 116) || (first cs == 102)) ≡ false
integer_no_letter cs z (grammar.decimal sign whole negative _ is_sign is value_is) =
    signed_no_letter sign whole negative is_sign (digit_no_letter (first whole) (decimal_first whole is))
integer_no_letter cs z (grammar.hexadecimal digits _ is value_is) = refl
integer_no_letter cs z (grammar.octal digits _ is value_is) = refl
integer_no_letter cs z (grammar.binary digits _ is value_is) = refl

float_no_letter : (cs : List ℕ) → IsFloat cs → ((first cs == 116) || (first cs == 102)) ≡ false
float_no_letter cs (grammar.fraction sign whole decimals negative is_sign is is') =
    signed_no_letter sign (whole ++ 46 ∷ decimals) negative is_sign
    (digit_no_letter (first (whole ++ 46 ∷ decimals)) (first_of whole (46 ∷ decimals) is))
float_no_letter cs (grammar.scaled sign whole scale negative is_sign is is_scale) =
    signed_no_letter sign (whole ++ scale) negative is_sign (digit_no_letter (first (whole ++ scale))
    (first_of whole scale is))
float_no_letter cs (grammar.both sign whole decimals scale negative is_sign is is' is_scale) =
    signed_no_letter sign (whole ++ 46 ∷ (decimals ++ scale)) negative is_sign
    (digit_no_letter (first (whole ++ 46 ∷ (decimals ++ scale))) (first_of whole (46 ∷ (decimals ++ scale)) is))
float_no_letter cs (grammar.infinity sign negative is_sign) = signed_no_letter sign (codes "inf") negative is_sign refl
float_no_letter cs (grammar.not_a_number sign negative is_sign) =
    signed_no_letter sign (codes "nan") negative is_sign refl

date_no_letter : (cs : List ℕ) → dated cs ≡ true → ((first cs == 116) || (first cs == 102)) ≡ false
date_no_letter cs e =
    let (digit, more) = and_parts (is_ascii_digit (first cs)) (after_digits cs == 45 || after_digits cs == 58) e in
    letter (first cs) digit
  where
    letter : (c : ℕ) → is_ascii_digit c ≡ true → ((c == 116) || (c == 102)) ≡ false
    letter c e = grind (arith, nat_tests)

-- an unquoted scalar of the grammar is read
pub scalar-complete : (cs : List ℕ) (v : Scalar) → IsScalar cs v → token_value cs ≡ Some v
unfolding token_value
scalar-complete cs v grammar.true_ = refl
scalar-complete cs v grammar.false_ = refl
scalar-complete cs v (grammar.integer _ z is) =
    let (not_true, not_false) = no_boolean cs (integer_no_letter cs z is) in
    rw (not_true, not_false, no_date cs (integer_not_dated cs z is), integer_no_float cs z is, integer-complete cs z is)
scalar-complete cs v (grammar.float _ is) =
    let (not_true, not_false) = no_boolean cs (float_no_letter cs is) in
    rw (not_true, not_false, no_date cs (float_not_dated cs is), float-complete cs is)
scalar-complete cs v (grammar.date _ is) =
    let (not_true, not_false) = no_boolean cs (date_no_letter cs (dates_dated cs is)) in
    rw (not_true, not_false, date_is-complete cs is)

integer_by : (cs : List ℕ) (v : Scalar) (o : Option ℤ) → integer cs ≡ o → option_map Integer o ≡ Some v → IsScalar cs v
integer_by cs v None is e = absurd (none-some v e)
integer_by cs v (Some z) is e = subst (IsScalar cs) (same_Some (Integer z) v e)
    (grammar.integer cs z (integer-sound cs z is))

-- an unquoted scalar that is read is in the grammar
pub scalar-sound : (cs : List ℕ) (v : Scalar) → token_value cs ≡ Some v → IsScalar cs v
unfolding token_value
scalar-sound cs v e =
    elim (cases_Bool (bytes_eq cs (codes "true"))) [
      | inl is_true ↦ subst (IsScalar cs) (same_Some (Boolean true) v (rw is_true at e))
          (subst (λ t. IsScalar t (Boolean true)) (sym (same_bytes cs (codes "true") is_true)) grammar.true_)
      | inr not_true ↦ elim (cases_Bool (bytes_eq cs (codes "false"))) [
        | inl is_false ↦
            subst (IsScalar cs) (same_Some (Boolean false) v (rw (not_true, is_false) at e))
            (subst (λ t. IsScalar t (Boolean false)) (sym (same_bytes cs (codes "false") is_false)) grammar.false_)
        | inr not_false ↦ elim (cases_Bool (is_date cs)) [
          | inl is_date_ ↦ subst (IsScalar cs) (same_Some (Date cs) v (rw (not_true, not_false, is_date_) at e))
              (grammar.date cs (date_is-sound cs is_date_))
          | inr not_date ↦ elim (cases_Bool (is_float cs)) [
            | inl is_float_ ↦ subst (IsScalar cs) (same_Some (Float cs) v
                (rw (not_true, not_false, not_date, is_float_) at e)) (grammar.float cs (float-sound cs is_float_))
            | inr not_float ↦ integer_by cs v (integer cs) refl (rw (not_true, not_false, not_date, not_float) at e)
          ]
        ]
      ]
    ]
