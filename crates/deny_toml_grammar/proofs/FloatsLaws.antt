-- Floats: the test of the reader holds exactly where the grammar has them.
use Rattle.std.proofs.Common.{◌≡◌, ℕ, ◌⊎◌, Bool, true, false, ◌||◌, ◌==◌, List, [], ◌∷◌, ◌++◌, length, take, drop, refl}
use Rattle.std.proofs.Common.{sym, ap, subst, ◌∙◌, inl, inr, arith, append-nil, take_at, drop_at}
use Rattle.std.proofs.lemmas.Bool.{cases_Bool, and_parts, false≢true}
use Rattle.std.proofs.lemmas.Bool.Decides.{nat_tests}
use Rattle.std.proofs.lemmas.List.{take-append-drop}
use Rattle.std.specs.List.{prefix_len, list_all}
use Rattle.std.specs.Char.{is_digit}
use Rattle.std.specs.Prelude.{codes}
use Rattle.std.specs.Str.{bytes_eq}
use Rattle.deny_toml_grammar.specs.Lexical.{first, is_grouped}
use Rattle.deny_toml_grammar.specs.Numbers.{are_digits, is_decimal_digit, is_decimal, without_sign, is_exponent}
use Rattle.deny_toml_grammar.specs.Numbers.{is_exponent_or_end, are_decimals, is_fraction, is_unsigned_float, is_float}
use Rattle.deny_toml_grammar.specs.GrammarScalars.{IsDigits, IsDecimal, IsSign, IsExponent, IsFloat}
use Rattle.deny_toml_grammar.specs.GrammarScalars as grammar
use Rattle.deny_toml_grammar.proofs.LexicalLaws.{prefix_len-run}
use Rattle.deny_toml_grammar.proofs.DigitsLaws.{SignPrefix, sign_prefix, sign-sound, sign-complete, digits-sound}
use Rattle.deny_toml_grammar.proofs.DigitsLaws.{digits-complete, decimal-sound, decimal-complete, decimal-digits}
use Rattle.deny_toml_grammar.proofs.DigitsLaws.{no_sign}

pub same_bytes : (xs ys : List ℕ) → bytes_eq xs ys ≡ true → xs ≡ ys
same_bytes [] [] e = refl
same_bytes [] (y ∷ ys) e = absurd (false≢true e)
same_bytes (x ∷ xs) [] e = absurd (false≢true e)
same_bytes (x ∷ xs) (y ∷ ys) e =
    let (here, more) = and_parts (x == y) (bytes_eq xs ys) e in
    let x_is : x ≡ y = grind (arith, nat_tests) in
    ap (λ t. t ∷ xs) x_is ∙ ap (λ t. y ∷ t) (same_bytes xs ys more)

-- an exponent
exponent_digits : (c : ℕ) (tail rest : List ℕ) (negative : Bool) → (c ≡ 101) ⊎ (c ≡ 69) → SignPrefix tail rest negative
    → IsDigits 10 rest → IsExponent (c ∷ tail)
exponent_digits c tail rest negative letter (sign_prefix sign _ _ is_sign) is =
    grammar.exponent c sign rest negative letter is_sign is

exponent-sound : (cs : List ℕ) → is_exponent cs ≡ true → IsExponent cs
exponent-sound [] e = absurd (false≢true e)
exponent-sound (c ∷ tail) e =
    let (letter, are) = and_parts ((c == 101) || (c == 69)) (are_digits is_decimal_digit (without_sign tail)) e in
    let which : (c ≡ 101) ⊎ (c ≡ 69) = elim (cases_Bool (c == 101))
    [ inl small ↦ inl (grind (arith, nat_tests)) | inr other ↦ inr (grind (arith, nat_tests)) ] in
    exponent_digits c tail (without_sign tail) (first tail == 45) which (sign-sound tail)
    (digits-sound 10 (without_sign tail) are)

digits_first : (cs : List ℕ) → IsDigits 10 cs → is_digit (first cs) 10 ≡ true
digits_first cs (grammar.one c here) = here
digits_first cs (grammar.more c cs' here is) = here
digits_first cs (grammar.spaced c cs' here is) = here

letter_is : (c : ℕ) → (c ≡ 101) ⊎ (c ≡ 69) → ((c == 101) || (c == 69)) ≡ true
letter_is c (inl e) = grind (arith, nat_tests)
letter_is c (inr e) = grind (arith, nat_tests)

exponent-complete : (cs : List ℕ) → IsExponent cs → is_exponent cs ≡ true
exponent-complete cs (grammar.exponent c sign digits negative letter is_sign is) =
    let (rest_is, _) = sign-complete sign digits negative is_sign (no_sign digits (digits_first digits is)) in
    rw (letter_is c letter, rest_is) (digits-complete 10 false digits (omega arith) is)

-- a run of digits and underscores, and what follows it
pub grouped_all : (cs : List ℕ) → IsDigits 10 cs → list_all is_grouped cs ≡ true
grouped_all cs (grammar.one c here) = let grouped : is_grouped c ≡ true = grind (arith, nat_tests) in rw grouped refl
grouped_all cs (grammar.more c cs' here is) = let grouped : is_grouped c ≡ true =
    grind (arith, nat_tests) in rw grouped (grouped_all cs' is)
grouped_all cs (grammar.spaced c cs' here is) = let grouped : is_grouped c ≡ true =
    grind (arith, nat_tests) in rw grouped (grouped_all cs' is)

exponent_stops : (cs : List ℕ) → IsExponent cs → is_grouped (first cs) ≡ false
exponent_stops cs (grammar.exponent c sign digits negative (inl e) is_sign is) = grind (arith, nat_tests)
exponent_stops cs (grammar.exponent c sign digits negative (inr e) is_sign is) = grind (arith, nat_tests)

-- decimals after a point, and an exponent or nothing
data Decimals : List ℕ → Type 0 where
  alone : (cs : List ℕ) → IsDigits 10 cs → Decimals cs
  with_exponent : (cs scale : List ℕ) → IsDigits 10 cs → IsExponent scale → Decimals (cs ++ scale)

decimals_end : (cs rest : List ℕ) → IsDigits 10 cs → is_exponent_or_end rest ≡ true → Decimals (cs ++ rest)
decimals_end cs [] is e = subst Decimals (sym (append-nil cs)) (alone cs is)
decimals_end cs (c ∷ rest) is e =
    let not_end : (length (c ∷ rest) == 0) ≡ false = grind (arith, nat_tests) in
    with_exponent cs (c ∷ rest) is (exponent-sound (c ∷ rest) (rw not_end at e))

decimals-sound : (cs : List ℕ) → are_decimals cs ≡ true → Decimals cs
decimals-sound cs e =
    let n = prefix_len is_grouped cs in
    let (are, ends) = and_parts (are_digits is_decimal_digit (take n cs)) (is_exponent_or_end (drop n cs)) e in
    subst Decimals (take-append-drop n cs) (decimals_end (take n cs) (drop n cs) (digits-sound 10 (take n cs) are) ends)

decimals-complete : (cs rest : List ℕ) → IsDigits 10 cs → is_grouped (first rest) ≡ false
    → is_exponent_or_end rest ≡ true → are_decimals (cs ++ rest) ≡ true
decimals-complete cs rest is stop ends = rw (
  prefix_len-run is_grouped cs rest (grouped_all cs is) stop,
  take_at cs rest
      _ refl,
  drop_at cs rest _ refl,
  digits-complete 10 false cs (omega arith) is,
) ends

-- a float without its sign
data Unsigned : List ℕ → Type 0 where
  infinite : Unsigned (codes "inf")
  nothing : Unsigned (codes "nan")
  pointed : (whole decimals : List ℕ) → IsDecimal whole → Decimals decimals → Unsigned (whole ++ 46 ∷ decimals)
  scaled : (whole scale : List ℕ) → IsDecimal whole → IsExponent scale → Unsigned (whole ++ scale)

unsigned_rest : (whole rest : List ℕ) → IsDecimal whole → (is_fraction rest || is_exponent rest) ≡ true
    → Unsigned (whole ++ rest)
unsigned_rest whole [] is e = absurd (false≢true e)
unsigned_rest whole (c ∷ rest) is e =
    elim (cases_Bool (c == 46)) [
      | inl point ↦
          let c_is : 46 ≡ c = grind (arith, nat_tests) in
          elim (cases_Bool (are_decimals rest)) [
            | inl good ↦ subst (λ x. Unsigned (whole ++ x ∷ rest)) c_is
                (pointed whole rest is (decimals-sound rest good))
            | inr bad ↦
                let no_letter : ((c == 101) || (c == 69)) ≡ false = grind (arith, nat_tests) in
                absurd (false≢true (rw (point, bad, no_letter) at e))
          ]
      | inr other ↦ scaled whole (c ∷ rest) is (exponent-sound (c ∷ rest) (rw other at e))
    ]

unsigned-sound : (cs : List ℕ) → is_unsigned_float cs ≡ true → Unsigned cs
unfolding is_unsigned_float
unsigned-sound cs e =
    elim (cases_Bool (bytes_eq cs (codes "inf"))) [
      | inl inf ↦ subst Unsigned (sym (same_bytes cs (codes "inf") inf)) infinite
      | inr not_inf ↦ elim (cases_Bool (bytes_eq cs (codes "nan"))) [
        | inl nan ↦ subst Unsigned (sym (same_bytes cs (codes "nan") nan)) nothing
        | inr not_nan ↦
            let n = prefix_len is_grouped cs in
            let number = rw (not_inf, not_nan) at e in
            let (whole, rest) = and_parts (is_decimal (take n cs)) (is_fraction (drop n cs) || is_exponent (drop n cs))
            number in
            subst Unsigned (take-append-drop n cs) (unsigned_rest (take n cs) (drop n cs)
            (decimal-sound (take n cs) whole) rest)
      ]
    ]

unsigned_float : (sign cs : List ℕ) (negative : Bool) → IsSign sign negative → Unsigned cs → IsFloat (sign ++ cs)
unsigned_float sign cs negative is_sign infinite = grammar.infinity sign negative is_sign
unsigned_float sign cs negative is_sign nothing = grammar.not_a_number sign negative is_sign
unsigned_float sign cs negative is_sign (pointed whole decimals is (alone _ is')) =
    grammar.fraction sign whole decimals negative is_sign is is'
unsigned_float sign cs negative is_sign (pointed whole decimals is (with_exponent cs' scale is' is_scale)) =
    grammar.both sign whole cs' scale negative is_sign is is' is_scale
unsigned_float sign cs negative is_sign (scaled whole scale is is_scale) =
    grammar.scaled sign whole scale negative is_sign is is_scale

float_found : (token rest : List ℕ) (negative : Bool) → SignPrefix token rest negative → Unsigned rest → IsFloat token
float_found token rest negative (sign_prefix sign _ _ is_sign) is = unsigned_float sign rest negative is_sign is

-- a float that is read is in the grammar
pub float-sound : (token : List ℕ) → is_float token ≡ true → IsFloat token
float-sound token e = float_found token (without_sign token) (first token == 45) (sign-sound token)
    (unsigned-sound (without_sign token) e)

-- a number does not begin with a letter of `inf` or `nan`
pub not_special : (cs : List ℕ) → is_digit (first cs) 10 ≡ true
    → (bytes_eq cs (codes "inf") || bytes_eq cs (codes "nan")) ≡ false
not_special [] e = refl
not_special (c ∷ cs) e =
    let not_i : (c == 105) ≡ false = grind (arith, nat_tests) in
    let not_n : (c == 110) ≡ false = grind (arith, nat_tests) in
    rw (not_i, not_n) refl

pub first_of : (cs rest : List ℕ) → IsDecimal cs → is_digit (first (cs ++ rest)) 10 ≡ true
first_of cs rest (grammar.single c here) = here
first_of cs rest (grammar.several c cs' other (grammar.one _ here)) = here
first_of cs rest (grammar.several c cs' other (grammar.more _ _ here is)) = here
first_of cs rest (grammar.several c cs' other (grammar.spaced _ _ here is)) = here

number-complete : (whole rest : List ℕ) → IsDecimal whole → is_grouped (first rest) ≡ false
    → (is_fraction rest || is_exponent rest) ≡ true → is_unsigned_float (whole ++ rest) ≡ true
unfolding is_unsigned_float
number-complete whole rest is stop e =
    rw (
      not_special (whole ++ rest) (first_of whole rest is),
      prefix_len-run is_grouped whole rest (grouped_all whole (decimal-digits whole is)) stop,
      take_at whole rest _ refl,
      drop_at whole rest _ refl,
      decimal-complete whole is,
    ) e

signed_number : (sign whole rest : List ℕ) (negative : Bool) → IsSign sign negative → IsDecimal whole
    → is_grouped (first rest) ≡ false → (is_fraction rest || is_exponent rest) ≡ true
    → is_float (sign ++ (whole ++ rest)) ≡ true
signed_number sign whole rest negative is_sign is stop e =
    let (rest_is, _) = sign-complete sign (whole ++ rest) negative is_sign
    (no_sign (whole ++ rest) (first_of whole rest is)) in
    rw rest_is (number-complete whole rest is stop e)

no_fraction : (cs : List ℕ) → IsExponent cs → is_fraction cs ≡ false
no_fraction cs (grammar.exponent c sign digits negative (inl e) is_sign is) = let no_point : (c == 46) ≡ false =
    grind (arith, nat_tests) in rw no_point refl
no_fraction cs (grammar.exponent c sign digits negative (inr e) is_sign is) = let no_point : (c == 46) ≡ false =
    grind (arith, nat_tests) in rw no_point refl

point_tail : (decimals : List ℕ) → are_decimals decimals ≡ true
    → (is_fraction (46 ∷ decimals) || is_exponent (46 ∷ decimals)) ≡ true
point_tail decimals e = rw e refl

scale_ends : (cs : List ℕ) → IsExponent cs → is_exponent_or_end cs ≡ true
scale_ends cs is = rw (exponent-complete cs is) (either (length cs == 0))
  where
    either : (b : Bool) → (b || true) ≡ true
    either true = refl
    either false = refl

-- a float of the grammar is read
pub float-complete : (token : List ℕ) → IsFloat token → is_float token ≡ true
unfolding is_unsigned_float
float-complete token (grammar.fraction sign whole decimals negative is_sign is is') =
    let good : are_decimals decimals ≡ true = rw append-nil at (decimals-complete decimals [] is' refl refl) in
    signed_number sign whole (46 ∷ decimals) negative is_sign is refl (point_tail decimals good)
float-complete token (grammar.scaled sign whole scale negative is_sign is is_scale) =
    signed_number sign whole scale negative is_sign is (exponent_stops scale is_scale)
    (rw (no_fraction scale is_scale) (exponent-complete scale is_scale))
float-complete token (grammar.both sign whole decimals scale negative is_sign is is' is_scale) =
    signed_number sign whole (46 ∷ (decimals ++ scale)) negative is_sign is refl
    (point_tail (decimals ++ scale) (decimals-complete decimals scale is' (exponent_stops scale is_scale)
    (scale_ends scale is_scale)))
float-complete token (grammar.infinity sign negative is_sign) =
    rw (sign-complete sign (codes "inf") negative is_sign refl).0 refl
float-complete token (grammar.not_a_number sign negative is_sign) =
    rw (sign-complete sign (codes "nan") negative is_sign refl).0 refl
