-- An unquoted scalar of the grammar is one token, or two with a space between them.
use Rattle.std.proofs.Common.{◌≡◌, ℕ, ℤ, ◌≤◌, ◌⊎◌, Bool, true, List, [], ◌∷◌, ◌++◌, refl, inl, inr, arith}
use Rattle.std.proofs.lemmas.Bool.{and_parts}
use Rattle.std.proofs.lemmas.Bool.Decides.{nat_tests}
use Rattle.std.proofs.lemmas.List.Folds.{list_all-append}
use Rattle.std.specs.List.{list_all}
use Rattle.std.specs.Char.{is_digit, is_ascii_digit}
use Rattle.std.specs.Prelude.{codes}
use Rattle.deny_toml_grammar.specs.declared.parts.Scalar.{Scalar}
use Rattle.deny_toml_grammar.specs.Lexical.{is_token_byte}
use Rattle.deny_toml_grammar.specs.GrammarScalars.{IsDigits, IsDecimal, IsSign, IsInteger, IsExponent, IsFloat, IsTwo}
use Rattle.deny_toml_grammar.specs.GrammarScalars.{StartsDate, StartsTime, IsSecondsFraction, IsOffset, IsDivider}
use Rattle.deny_toml_grammar.specs.GrammarScalars.{IsDate}
use Rattle.deny_toml_grammar.specs.GrammarScalars.{IsScalar}
use Rattle.deny_toml_grammar.specs.GrammarScalars as grammar
use Rattle.deny_toml_grammar.proofs.DigitsLaws.{decimal-digits}

-- the bytes of a token, or of two tokens, the second of which begins with a digit
pub data Shape : List ℕ → Type 0 where
  one_token : (cs : List ℕ) → list_all is_token_byte cs ≡ true → Shape cs
  two_tokens : (c : ℕ) (cs : List ℕ) (d : ℕ) (ds : List ℕ) → list_all is_token_byte (c ∷ cs) ≡ true
      → is_ascii_digit d ≡ true
      → list_all is_token_byte (d ∷ ds) ≡ true
      → Shape (c ∷ (cs ++ 32 ∷ (d ∷ ds)))

joined : (xs ys : List ℕ) → list_all is_token_byte xs ≡ true → list_all is_token_byte ys ≡ true
    → list_all is_token_byte (xs ++ ys) ≡ true
joined xs ys a b = rw (list_all-append is_token_byte xs ys, a) b

digit_token : (radix c : ℕ) → radix ≤ 16 → is_digit c radix ≡ true → is_token_byte c ≡ true
digit_token radix c small e = grind (arith, nat_tests)

digits_token : (radix : ℕ) (cs : List ℕ) → radix ≤ 16 → IsDigits radix cs → list_all is_token_byte cs ≡ true
digits_token radix cs small (grammar.one c here) = rw (digit_token radix c small here) refl
digits_token radix cs small (grammar.more c cs' here is) = rw (digit_token radix c small here)
    (digits_token radix cs' small is)
digits_token radix cs small (grammar.spaced c cs' here is) = rw (digit_token radix c small here)
    (digits_token radix cs' small is)

sign_token : (sign : List ℕ) (negative : Bool) → IsSign sign negative → list_all is_token_byte sign ≡ true
sign_token sign negative grammar.none = refl
sign_token sign negative grammar.plus = refl
sign_token sign negative grammar.minus = refl

decimal_token : (cs : List ℕ) → IsDecimal cs → list_all is_token_byte cs ≡ true
decimal_token cs is = digits_token 10 cs (omega arith) (decimal-digits cs is)

exponent_token : (cs : List ℕ) → IsExponent cs → list_all is_token_byte cs ≡ true
exponent_token cs (grammar.exponent c sign digits negative letter is_sign is) =
    rw (letter_token c letter) (joined sign digits (sign_token sign negative is_sign)
    (digits_token 10 digits (omega arith) is))
  where
    letter_token : (c : ℕ) → (c ≡ 101) ⊎ (c ≡ 69) → is_token_byte c ≡ true
    letter_token c (inl e) = rw e refl
    letter_token c (inr e) = rw e refl

integer_token : (cs : List ℕ) (z : ℤ) → IsInteger cs z → list_all is_token_byte cs ≡ true
integer_token cs z (grammar.decimal sign whole negative _ is_sign is value_is) =
    joined sign whole (sign_token sign negative is_sign) (decimal_token whole is)
integer_token cs z (grammar.hexadecimal digits _ is value_is) = digits_token 16 digits (omega arith) is
integer_token cs z (grammar.octal digits _ is value_is) = digits_token 8 digits (omega arith) is
integer_token cs z (grammar.binary digits _ is value_is) = digits_token 2 digits (omega arith) is

float_token : (cs : List ℕ) → IsFloat cs → list_all is_token_byte cs ≡ true
float_token cs (grammar.fraction sign whole decimals negative is_sign is is') =
    joined sign (whole ++ 46 ∷ decimals) (sign_token sign negative is_sign)
    (joined whole (46 ∷ decimals) (decimal_token whole is) (digits_token 10 decimals (omega arith) is'))
float_token cs (grammar.scaled sign whole scale negative is_sign is is_scale) =
    joined sign (whole ++ scale) (sign_token sign negative is_sign)
    (joined whole scale (decimal_token whole is) (exponent_token scale is_scale))
float_token cs (grammar.both sign whole decimals scale negative is_sign is is' is_scale) =
    joined sign (whole ++ 46 ∷ (decimals ++ scale)) (sign_token sign negative is_sign)
    (joined whole (46 ∷ (decimals ++ scale)) (decimal_token whole is)
    (joined decimals scale (digits_token 10 decimals (omega arith) is') (exponent_token scale is_scale)))
float_token cs (grammar.infinity sign negative is_sign) = joined sign (codes "inf") (sign_token sign negative is_sign)
    refl
float_token cs (grammar.not_a_number sign negative is_sign) =
    joined sign (codes "nan") (sign_token sign negative is_sign) refl

ascii_token : (c : ℕ) → is_ascii_digit c ≡ true → is_token_byte c ≡ true
ascii_token c e = grind (arith, nat_tests)

two_token : (low high a b : ℕ) → IsTwo low high a b → (is_token_byte a ≡ true) × (is_token_byte b ≡ true)
two_token low high a b (grammar.two _ _ tens ones above below) = (ascii_token a tens, ascii_token b ones)

two_first : (low high a b : ℕ) → IsTwo low high a b → is_ascii_digit a ≡ true
two_first low high a b (grammar.two _ _ tens ones above below) = tens

digits_run : (cs : List ℕ) → list_all is_ascii_digit cs ≡ true → list_all is_token_byte cs ≡ true
digits_run [] e = refl
digits_run (c ∷ cs) e = let (here, more) = and_parts (is_ascii_digit c) (list_all is_ascii_digit cs) e in rw
    (ascii_token c here) (digits_run cs more)

offset_token : (cs : List ℕ) → IsOffset cs → list_all is_token_byte cs ≡ true
offset_token cs grammar.local = refl
offset_token cs (grammar.universal z (inl e)) = rw e refl
offset_token cs (grammar.universal z (inr e)) = rw e refl
offset_token cs (grammar.distance s a b c d which hours minutes) =
    let (a_, b_) = two_token 0 23 a b hours in
    let (c_, d_) = two_token 0 59 c d minutes in
    rw (sign_byte s which, a_, b_, c_, d_) refl
  where
    sign_byte : (s : ℕ) → (s ≡ 43) ⊎ (s ≡ 45) → is_token_byte s ≡ true
    sign_byte s (inl e) = rw e refl
    sign_byte s (inr e) = rw e refl

fraction_token : (rest cs : List ℕ) → IsSecondsFraction rest cs → list_all is_token_byte rest ≡ true
    → list_all is_token_byte cs ≡ true
fraction_token rest cs grammar.whole all = all
fraction_token rest cs (grammar.fraction_of_second d ds digits) all =
    joined (46 ∷ (d ∷ ds)) rest (digits_run (d ∷ ds) digits) all

time_token : (rest cs : List ℕ) → StartsTime rest cs → list_all is_token_byte rest ≡ true
    → list_all is_token_byte cs ≡ true
time_token rest cs (grammar.hms a b c d e f hours minutes seconds) all =
    let (a_, b_) = two_token 0 23 a b hours in
    let (c_, d_) = two_token 0 59 c d minutes in
    let (e_, f_) = two_token 0 60 e f seconds in
    rw (a_, b_, c_, d_, e_, f_) all

date_token : (rest cs : List ℕ) → StartsDate rest cs → list_all is_token_byte rest ≡ true
    → list_all is_token_byte cs ≡ true
date_token rest cs (grammar.ymd a b c d e f g h century years months days) all =
    let (a_, b_) = two_token 0 99 a b century in
    let (c_, d_) = two_token 0 99 c d years in
    let (e_, f_) = two_token 1 12 e f months in
    let (g_, h_) = two_token 1 31 g h days in
    rw (a_, b_, c_, d_, e_, f_, g_, h_) all

-- a date and a time with a space between them
spaced_shape : (cs time_ rest : List ℕ) → StartsDate (32 ∷ time_) cs → StartsTime rest time_
    → list_all is_token_byte time_ ≡ true → Shape cs
spaced_shape cs time_ rest (grammar.ymd a b c d e f g h century years months days)
    (grammar.hms i j k l m n hours minutes seconds) all =
    let (a_, b_) = two_token 0 99 a b century in
    let (c_, d_) = two_token 0 99 c d years in
    let (e_, f_) = two_token 1 12 e f months in
    let (g_, h_) = two_token 1 31 g h days in
    two_tokens a (b ∷ (c ∷ (d ∷ (45 ∷ (e ∷ (f ∷ (45 ∷ (g ∷ (h ∷ []))))))))) i
    (j ∷ (58 ∷ (k ∷ (l ∷ (58 ∷ (m ∷ (n ∷ rest)))))))
    (rw (a_, b_, c_, d_, e_, f_, g_, h_) refl) (two_first 0 23 i j hours) all

moment_shape : (c : ℕ) (cs time_ rest : List ℕ) → StartsDate (c ∷ time_) cs → IsDivider c → StartsTime rest time_
    → list_all is_token_byte time_ ≡ true → Shape cs
moment_shape c cs time_ rest is grammar.capital is_time_ all = one_token cs (date_token (84 ∷ time_) cs is all)
moment_shape c cs time_ rest is grammar.small is_time_ all = one_token cs (date_token (116 ∷ time_) cs is all)
moment_shape c cs time_ rest is grammar.blank is_time_ all = spaced_shape cs time_ rest is is_time_ all

date_shape : (cs : List ℕ) → IsDate cs → Shape cs
date_shape cs (grammar.day _ is) = one_token cs (date_token [] cs is refl)
date_shape cs (grammar.moment c _ time_ rest offset is divides is_time_ is_fraction is_offset_) =
    moment_shape c cs time_ rest is divides is_time_ (time_token rest time_ is_time_
    (fraction_token offset rest is_fraction (offset_token offset is_offset_)))
date_shape cs (grammar.hour _ rest is is_fraction) = one_token cs
    (time_token rest cs is (fraction_token [] rest is_fraction refl))

pub scalar_shape : (cs : List ℕ) (v : Scalar) → IsScalar cs v → Shape cs
scalar_shape cs v grammar.true_ = one_token (codes "true") refl
scalar_shape cs v grammar.false_ = one_token (codes "false") refl
scalar_shape cs v (grammar.integer _ z is) = one_token cs (integer_token cs z is)
scalar_shape cs v (grammar.float _ is) = one_token cs (float_token cs is)
scalar_shape cs v (grammar.date _ is) = date_shape cs is
