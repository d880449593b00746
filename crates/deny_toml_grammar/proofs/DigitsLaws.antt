-- Digits and numbers: the tests of the reader hold exactly where the grammar has them.
use Rattle.std.proofs.Common.{◌≡◌, ℕ, ℤ, ◌^◌, ◌≤◌, Bool, true, false, not, ◌||◌, ◌==◌, nat_lt, nat_le, List, [], ◌∷◌}
use Rattle.std.proofs.Common.{◌++◌, length, drop, Some, None, option_and_then, refl, sym, ap, subst, ◌∙◌, inl, inr}
use Rattle.std.proofs.Common.{arith}
use Rattle.std.proofs.lemmas.Option.{none-some}
use Rattle.std.proofs.lemmas.Bool.{cases_Bool, and_parts, false≢true}
use Rattle.std.proofs.lemmas.Bool.Decides.{nat_tests}
use Rattle.std.specs.List.{list_all}
use Rattle.std.specs.Char.{is_digit}
use Rattle.deny_toml_grammar.specs.Lexical.{first}
use Rattle.deny_toml_grammar.specs.Numbers.{groups, digits_alone, bounded_value, signed, is_decimal, are_digits}
use Rattle.deny_toml_grammar.specs.Numbers.{is_decimal_digit, radix_of, prefixed_integer, decimal_integer, integer}
use Rattle.deny_toml_grammar.specs.Numbers.{without_sign, has_sign}
use Rattle.deny_toml_grammar.specs.GrammarScalars.{IsDigits, IsDecimal, IsSign, IsInteger, number_of}
use Rattle.deny_toml_grammar.specs.GrammarScalars as grammar

-- what follows a digit: nothing, more digits, or an underscore and digits
data AfterDigit (radix : ℕ) : List ℕ → Type 0 where
  nothing : AfterDigit radix []
  digits : (cs : List ℕ) → IsDigits radix cs → AfterDigit radix cs
  underscore_ : (cs : List ℕ) → IsDigits radix cs → AfterDigit radix (95 ∷ cs)

after_digit : (radix c : ℕ) (cs : List ℕ) → is_digit c radix ≡ true → AfterDigit radix cs → IsDigits radix (c ∷ cs)
after_digit radix c cs here nothing = grammar.one c here
after_digit radix c cs here (digits _ is) = grammar.more c cs here is
after_digit radix c cs here (underscore_ cs' is) = grammar.spaced c cs' here is

mutual
  pub digits-sound : (radix : ℕ) (cs : List ℕ) → groups (λ c. is_digit c radix) false cs ≡ true → IsDigits radix cs
  digits-sound radix [] e = absurd (false≢true e)
  digits-sound radix (c ∷ cs) e =
      elim (cases_Bool (is_digit c radix)) [
        | inl here ↦ after_digit radix c cs here (after-sound radix cs (rw here at e))
        | inr other ↦ absurd (false≢true (rw other at e))
      ]

  after-sound : (radix : ℕ) (cs : List ℕ) → groups (λ c. is_digit c radix) true cs ≡ true → AfterDigit radix cs
  after-sound radix [] e = nothing
  after-sound radix (c ∷ cs) e =
      elim (cases_Bool (is_digit c radix)) [
        | inl here ↦ digits (c ∷ cs) (after_digit radix c cs here (after-sound radix cs (rw here at e)))
        | inr other ↦ elim (cases_Bool (c == 95)) [
          | inl under ↦
              let c_is : 95 ≡ c = grind (arith, nat_tests) in
              subst (λ x. AfterDigit radix (x ∷ cs)) c_is (underscore_ cs
              (digits-sound radix cs (rw (other, under) at e)))
          | inr none ↦ absurd (false≢true (rw (other, none) at e))
        ]
      ]

pub digits-complete : (radix : ℕ) (after : Bool) (cs : List ℕ) → radix ≤ 16 → IsDigits radix cs
    → groups (λ c. is_digit c radix) after cs ≡ true
digits-complete radix after cs small (grammar.one c here) = rw here
digits-complete radix after cs small (grammar.more c cs' here is) = rw here (digits-complete radix true cs' small is)
digits-complete radix after cs small (grammar.spaced c cs' here is) =
    let no_digit : is_digit 95 radix ≡ false = grind (arith, nat_tests) in
    rw (here, no_digit) (digits-complete radix false cs' small is)

-- digits without their underscores are digits
digits_alone-pass : (radix : ℕ) (cs : List ℕ) → radix ≤ 16 → IsDigits radix cs
    → list_all (λ c. is_digit c radix) (digits_alone cs) ≡ true
digits_alone-pass radix cs small (grammar.one c here) = let other : (c == 95) ≡ false =
    grind (arith, nat_tests) in rw (other, here)
digits_alone-pass radix cs small (grammar.more c cs' here is) =
    let other : (c == 95) ≡ false = grind (arith, nat_tests) in rw (other, here) (digits_alone-pass radix cs' small is)
digits_alone-pass radix cs small (grammar.spaced c cs' here is) =
    let other : (c == 95) ≡ false = grind (arith, nat_tests) in rw (other, here) (digits_alone-pass radix cs' small is)

signed_large : (negative : Bool) (n : ℕ) → nat_le n (2 ^ 63) ≡ false → signed negative n ≡ None
signed_large true n large = rw large
signed_large false n large = let not_less : nat_lt n (2 ^ 63) ≡ false = grind (arith, nat_tests) in rw not_less

bounded_some : (radix : ℕ) (cs : List ℕ) → list_all (λ c. is_digit c radix) (digits_alone cs) ≡ true
    → nat_le (number_of radix cs) (2 ^ 63) ≡ true
    → bounded_value radix cs ≡ Some (number_of radix cs)
bounded_some radix cs all fits = rw (all, fits)

bounded_none : (radix : ℕ) (cs : List ℕ) → list_all (λ c. is_digit c radix) (digits_alone cs) ≡ true
    → nat_le (number_of radix cs) (2 ^ 63) ≡ false → bounded_value radix cs ≡ None
bounded_none radix cs all large = rw (all, large)

-- the value of digits, with a sign
bounded_is : (radix : ℕ) (negative : Bool) (cs : List ℕ) → radix ≤ 16 → IsDigits radix cs
    → option_and_then (signed negative) (bounded_value radix cs) ≡ signed negative (number_of radix cs)
bounded_is radix negative cs small is =
    let all = digits_alone-pass radix cs small is in
    elim (cases_Bool (nat_le (number_of radix cs) (2 ^ 63))) [
      | inl fits ↦ ap (option_and_then (signed negative)) (bounded_some radix cs all fits)
      | inr large ↦ ap (option_and_then (signed negative)) (bounded_none radix cs all large)
          ∙ sym (signed_large negative (number_of radix cs) large)
    ]

-- a decimal number
pub decimal-sound : (cs : List ℕ) → is_decimal cs ≡ true → IsDecimal cs
decimal-sound [] e = absurd (false≢true e)
decimal-sound (c ∷ []) e =
    let (are, one_) = and_parts (are_digits is_decimal_digit (c ∷ [])) ((length (c ∷ []) == 1) || not (c == 48)) e in
    elim (cases_Bool (is_digit c 10)) [
      | inl here ↦ grammar.single c here
      | inr other ↦
          absurd (false≢true (rw other at are))
    ]
decimal-sound (c ∷ (d ∷ cs)) e =
    let (are, starts) = and_parts (are_digits is_decimal_digit (c ∷ (d ∷ cs)))
    ((length (c ∷ (d ∷ cs)) == 1) || not (c == 48)) e in
    grammar.several c (d ∷ cs) (λ zero_. absurd (grind (arith, nat_tests))) (digits-sound 10 (c ∷ (d ∷ cs)) are)

pub decimal-digits : (cs : List ℕ) → IsDecimal cs → IsDigits 10 cs
decimal-digits cs (grammar.single c here) = grammar.one c here
decimal-digits cs (grammar.several c cs' other is) = is

pub decimal-complete : (cs : List ℕ) → IsDecimal cs → is_decimal cs ≡ true
decimal-complete cs (grammar.single c here) = rw here refl
decimal-complete cs (grammar.several c cs' other is) =
    let not_zero : (c == 48) ≡ false = elim (cases_Bool (c == 48))
    [ inl zero_ ↦ absurd (other (grind (arith, nat_tests))) | inr good ↦ good ] in
    rw (digits-complete 10 false (c ∷ cs') (omega arith) is, not_zero) (either (length (c ∷ cs') == 1))
  where
    either : (b : Bool) → (b || true) ≡ true
    either true = refl
    either false = refl

-- a decimal number begins with a digit
pub decimal_first : (cs : List ℕ) → IsDecimal cs → is_digit (first cs) 10 ≡ true
decimal_first cs (grammar.single c here) = here
decimal_first cs (grammar.several c cs' other (grammar.one _ here)) = here
decimal_first cs (grammar.several c cs' other (grammar.more _ _ here is)) = here
decimal_first cs (grammar.several c cs' other (grammar.spaced _ _ here is)) = here

-- the sign at the start
pub data SignPrefix : List ℕ → List ℕ → Bool → Type 0 where
  sign_prefix : (sign rest : List ℕ) (negative : Bool) → IsSign sign negative → SignPrefix (sign ++ rest) rest negative

pub sign-sound : (token : List ℕ) → SignPrefix token (without_sign token) (first token == 45)
sign-sound [] = sign_prefix [] [] false grammar.none
sign-sound (c ∷ cs) =
    elim (cases_Bool (c == 43)) [
      | inl is_plus ↦ let c_is : 43 ≡ c = grind (arith, nat_tests) in subst
          (λ x. SignPrefix (x ∷ cs) (without_sign (x ∷ cs)) (x == 45)) c_is
          (sign_prefix (43 ∷ []) cs false grammar.plus)
      | inr other ↦ elim (cases_Bool (c == 45)) [
        | inl is_minus ↦ let c_is : 45 ≡ c = grind (arith, nat_tests) in subst
            (λ x. SignPrefix (x ∷ cs) (without_sign (x ∷ cs)) (x == 45)) c_is
            (sign_prefix (45 ∷ []) cs true grammar.minus)
        | inr none_ ↦ rw (other, none_) (sign_prefix [] (c ∷ cs) false grammar.none)
      ]
    ]

-- a sign is removed where no second sign follows
pub sign-complete : (sign rest : List ℕ) (negative : Bool) → IsSign sign negative → has_sign rest ≡ false
    → (without_sign (sign ++ rest) ≡ rest) × ((first (sign ++ rest) == 45) ≡ negative)
sign-complete sign rest negative grammar.none none_ = (rw none_ refl, no_minus rest none_)
  where
    no_minus : (rest : List ℕ) → has_sign rest ≡ false → (first rest == 45) ≡ false
    no_minus rest e = grind (arith, nat_tests)
sign-complete sign rest negative grammar.plus none_ = (refl, refl)
sign-complete sign rest negative grammar.minus none_ = (refl, refl)

decimal_integer-sound : (negative : Bool) (cs : List ℕ) (z : ℤ) → decimal_integer negative cs ≡ Some z → IsDecimal cs
    × (signed negative (number_of 10 cs) ≡ Some z)
unfolding decimal_integer
decimal_integer-sound negative cs z e =
    elim (cases_Bool (is_decimal cs)) [
      | inl good ↦
          let is = decimal-sound cs good in
          let same : option_and_then (signed negative) (bounded_value 10 cs) ≡ Some z = rw good at e in
          (is, sym (bounded_is 10 negative cs (omega arith) (decimal-digits cs is)) ∙ same)
      | inr bad ↦ absurd (none-some z (rw bad at e))
    ]

prefixed_integer-sound : (radix : ℕ) (cs : List ℕ) (z : ℤ) → radix ≤ 16 → prefixed_integer radix cs ≡ Some z
    → IsDigits radix cs × (signed false (number_of radix cs) ≡ Some z)
unfolding prefixed_integer
prefixed_integer-sound radix cs z small e =
    elim (cases_Bool (are_digits (λ c. is_digit c radix) cs)) [
      | inl good ↦
          let is = digits-sound radix cs good in
          let same : option_and_then (signed false) (bounded_value radix cs) ≡ Some z = rw good at e in
          (is, sym (bounded_is radix false cs small is) ∙ same)
      | inr bad ↦ absurd (none-some z (rw bad at e))
    ]

decimal_found : (token rest : List ℕ) (negative : Bool) (z : ℤ) → SignPrefix token rest negative
    → decimal_integer negative rest ≡ Some z → IsInteger token z
decimal_found token rest negative z (sign_prefix sign _ _ is_sign) e =
    let (is, value_is) = decimal_integer-sound negative rest z e in
    grammar.decimal sign rest negative z is_sign is value_is

integer_decimal : (token : List ℕ) → radix_of token ≡ 10 → integer token ≡ decimal_integer (first token == 45)
    (without_sign token)
unfolding integer
integer_decimal token ten = rw ten

integer_prefixed : (token : List ℕ) (radix : ℕ) → radix_of token ≡ radix → (radix == 10) ≡ false
    → integer token ≡ prefixed_integer radix (drop 2 token)
unfolding integer
integer_prefixed token radix is other = rw (is, other)

prefixed_found : (d : ℕ) (cs : List ℕ) (z : ℤ) → integer (48 ∷ (d ∷ cs)) ≡ Some z → IsInteger (48 ∷ (d ∷ cs)) z
prefixed_found d cs z e =
    elim (cases_Bool (d == 120)) [
      | inl hex ↦
          let d_is : d ≡ 120 = grind (arith, nat_tests) in
          let (is, value_is) = prefixed_integer-sound 16 cs z (omega arith)
          (sym (integer_prefixed (48 ∷ (d ∷ cs)) 16 (rw hex) refl) ∙ e) in
          subst (λ x. IsInteger (48 ∷ (x ∷ cs)) z) (sym d_is) (grammar.hexadecimal cs z is value_is)
      | inr not_hex ↦ elim (cases_Bool (d == 111)) [
        | inl oct ↦
            let d_is : d ≡ 111 = grind (arith, nat_tests) in
            let (is, value_is) = prefixed_integer-sound 8 cs z (omega arith)
            (sym (integer_prefixed (48 ∷ (d ∷ cs)) 8 (rw (not_hex, oct)) refl) ∙ e) in
            subst (λ x. IsInteger (48 ∷ (x ∷ cs)) z) (sym d_is) (grammar.octal cs z is value_is)
        | inr not_oct ↦ elim (cases_Bool (d == 98)) [
          | inl bin ↦
              let d_is : d ≡ 98 = grind (arith, nat_tests) in
              let (is, value_is) = prefixed_integer-sound 2 cs z (omega arith)
              (sym (integer_prefixed (48 ∷ (d ∷ cs)) 2 (rw (not_hex, not_oct, bin)) refl) ∙ e) in
              subst (λ x. IsInteger (48 ∷ (x ∷ cs)) z) (sym d_is) (grammar.binary cs z is value_is)
          | inr not_bin ↦
              let token = 48 ∷ (d ∷ cs) in
              decimal_found token (without_sign token) (first token == 45) z (sign-sound token)
              (sym (integer_decimal token (rw (not_hex, not_oct, not_bin))) ∙ e)
        ]
      ]
    ]

other_found : (token : List ℕ) (z : ℤ) → radix_of token ≡ 10 → integer token ≡ Some z → IsInteger token z
other_found token z ten e = decimal_found token (without_sign token) (first token == 45) z (sign-sound token)
    (sym (integer_decimal token ten) ∙ e)

-- an integer that is read is in the grammar
pub integer-sound : (token : List ℕ) (z : ℤ) → integer token ≡ Some z → IsInteger token z
integer-sound [] z e = other_found [] z refl e
integer-sound (c ∷ []) z e = elim (cases_Bool (c == 48)) [
  | inl zero_ ↦ other_found (c ∷ []) z (rw zero_) e
  | inr other ↦
      other_found (c ∷ []) z (rw other) e
]
integer-sound (c ∷ (d ∷ cs)) z e =
    elim (cases_Bool (c == 48)) [
      | inl zero_ ↦
          let c_is : c ≡ 48 = grind (arith, nat_tests) in
          subst (λ x. IsInteger (x ∷ (d ∷ cs)) z) (sym c_is)
          (prefixed_found d cs z (subst (λ x. integer (x ∷ (d ∷ cs)) ≡ Some z) c_is e))
      | inr other ↦ other_found (c ∷ (d ∷ cs)) z (rw other) e
    ]

decimal_integer-complete : (negative : Bool) (cs : List ℕ) → IsDecimal cs
    → decimal_integer negative cs ≡ signed negative (number_of 10 cs)
unfolding decimal_integer
decimal_integer-complete negative cs is = rw (decimal-complete cs is)
    (bounded_is 10 negative cs (omega arith) (decimal-digits cs is))

prefixed_integer-complete : (radix : ℕ) (cs : List ℕ) → radix ≤ 16 → IsDigits radix cs
    → prefixed_integer radix cs ≡ signed false (number_of radix cs)
unfolding prefixed_integer
prefixed_integer-complete radix cs small is = rw (digits-complete radix false cs small is)
    (bounded_is radix false cs small is)

pub no_sign : (cs : List ℕ) → is_digit (first cs) 10 ≡ true → has_sign cs ≡ false
no_sign cs e = grind (arith, nat_tests)

decimal_radix : (sign cs : List ℕ) (negative : Bool) → IsSign sign negative → IsDecimal cs → radix_of (sign ++ cs) ≡ 10
decimal_radix sign cs negative grammar.plus is = refl
decimal_radix sign cs negative grammar.minus is = refl
decimal_radix sign cs negative grammar.none (grammar.single c here) =
    elim (cases_Bool (c == 48)) [ inl zero_ ↦ rw zero_ | inr other ↦ rw other ]
decimal_radix sign cs negative grammar.none (grammar.several c cs' other is) =
    elim (cases_Bool (c == 48)) [ inl zero_ ↦ absurd (other (grind (arith, nat_tests))) | inr good ↦ rw good ]

-- an integer of the grammar is read
pub integer-complete : (token : List ℕ) (z : ℤ) → IsInteger token z → integer token ≡ Some z
integer-complete token z (grammar.decimal sign cs negative _ is_sign is value_is) =
    let (rest_is, minus_is) = sign-complete sign cs negative is_sign (no_sign cs (decimal_first cs is)) in
    integer_decimal (sign ++ cs) (decimal_radix sign cs negative is_sign is)
    ∙ rw (rest_is, minus_is) (decimal_integer-complete negative cs is ∙ value_is)
integer-complete token z (grammar.hexadecimal cs _ is value_is) = integer_prefixed (48 ∷ (120 ∷ cs)) 16 refl refl
    ∙ prefixed_integer-complete 16 cs (omega arith) is ∙ value_is
integer-complete token z (grammar.octal cs _ is value_is) = integer_prefixed (48 ∷ (111 ∷ cs)) 8 refl refl
    ∙ prefixed_integer-complete 8 cs (omega arith) is ∙ value_is
integer-complete token z (grammar.binary cs _ is value_is) = integer_prefixed (48 ∷ (98 ∷ cs)) 2 refl refl
    ∙ prefixed_integer-complete 2 cs (omega arith) is ∙ value_is
