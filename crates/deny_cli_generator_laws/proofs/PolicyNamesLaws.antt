-- The bytes of the generated names and specs.
use Rattle.std.proofs.Common.{◌≡◌, ◌∷◌, [], ℕ, List, Bool, true, false, codes, refl, IsUtf8, arith}
use Rattle.std.proofs.lemmas.Bool.{and_from, and_parts}
use Rattle.std.proofs.lemmas.Bool.Decides.{nat_tests}
use Rattle.std.proofs.lemmas.List.Folds.{list_all-append}
use Rattle.std.proofs.lemmas.Str.{IsUtf8-from_ascii}
use Rattle.std.specs.Char.{is_ascii, is_ascii_digit}
use Rattle.std.specs.Fmt.{decimal}
use Rattle.std.specs.List.{list_all}
use Rattle.deny_toml_grammar.specs.Lexical.{is_plain}
use Rattle.deny_cfg_build.proofs.BuiltinLaws.{ascii_from_test}
use Rattle.deny_cli_generator.specs.Made.{name_of}
use Rattle.deny_cli_generator_laws.proofs.PolicySkipped.{spec_text}
use Rattle.deny_cli_generator_laws.proofs.PolicyDigitsLaws.{decimal-digits}
use Rattle.deny_cli_generator_laws.proofs.PolicyElementsLaws.{IsPlain}

-- a test that all digits pass
abbrev Passes : (ℕ → Bool) → Type 0
Passes p = (c : ℕ) → is_ascii_digit c ≡ true → p c ≡ true

digits_pass : (p : ℕ → Bool) → Passes p → (cs : List ℕ) → list_all is_ascii_digit cs ≡ true → list_all p cs ≡ true
digits_pass p passes [] all = refl
digits_pass p passes (c ∷ cs) all =
    let parts = and_parts (is_ascii_digit c) (list_all is_ascii_digit cs) all in
    and_from (p c) (list_all p cs) (passes c parts.0) (digits_pass p passes cs parts.1)

-- each byte of a name passes a test that the digits and the letter pass
pub name-pass : (p : ℕ → Bool) → Passes p → p 99 ≡ true → (number : ℕ) → list_all p (name_of number) ≡ true
unfolding name_of
name-pass p passes letter number =
    and_from (p 99) (list_all p (decimal number)) letter
    (digits_pass p passes (decimal number) (decimal-digits number))

-- each byte of a spec passes a test that the digits, the letter and the requirement's bytes pass
spec_pass : (p : ℕ → Bool) → Passes p → p 99 ≡ true → list_all p (codes "@=1.0.0") ≡ true → (number : ℕ)
    → list_all p (spec_text number) ≡ true
unfolding spec_text
spec_pass p passes letter requirement number =
    rw list_all-append
    (and_from (list_all p (name_of number)) (list_all p (codes "@=1.0.0")) (name-pass p passes letter number)
    requirement)

digit_plain : (c : ℕ) → is_ascii_digit c ≡ true → is_plain 34 false c ≡ true
digit_plain c digit = grind (arith, nat_tests)

pub spec-plain : (number : ℕ) → IsPlain (spec_text number)
spec-plain number = spec_pass (is_plain 34 false) digit_plain refl refl number

-- a text of ASCII bytes is UTF-8
pub ascii-utf8 : (bytes : List ℕ) → list_all is_ascii bytes ≡ true → IsUtf8 bytes
ascii-utf8 bytes all = IsUtf8-from_ascii bytes (ascii_from_test bytes all)

digit_ascii : (c : ℕ) → is_ascii_digit c ≡ true → is_ascii c ≡ true
digit_ascii c digit = grind (arith, nat_tests)

pub spec-utf8 : (number : ℕ) → IsUtf8 (spec_text number)
spec-utf8 number = ascii-utf8 (spec_text number) (spec_pass is_ascii digit_ascii refl refl number)
