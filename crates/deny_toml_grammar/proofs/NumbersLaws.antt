-- Digits and their value.
use Rattle.std.proofs.Common.{◌^◌, Some, None, ◌≡◌, ℕ, zero, suc, ◌+◌, ◌*◌, ◌<◌, ◌≤◌, get_or}
use Rattle.std.proofs.Common.{Bool, true, List, [], ◌∷◌, length, arith, le_refl, le_trans, mul-le-mul_left}
use Rattle.std.proofs.lemmas.Bool.{and_parts}
use Rattle.std.proofs.lemmas.Bool.Decides.{nat_tests}
use Rattle.std.specs.List.{list_all}
use Rattle.std.specs.Char.{digit_value, is_digit}
use Rattle.std.specs.Str.Parse.{digits_value_after}
use Rattle.deny_toml_grammar.specs.Numbers.{bounded_after, next_value, digits_alone}

-- each byte of a list passes
pub list_all-at : (p : ℕ → Bool) (xs : List ℕ) (i : ℕ) → list_all p xs ≡ true → i < length xs → p (get_or xs i 0) ≡ true
list_all-at p [] i all h = absurd (omega arith)
list_all-at p (x ∷ xs) zero all h = (and_parts (p x) (list_all p xs) all).0
list_all-at p (x ∷ xs) (suc i) all h = list_all-at p xs i (and_parts (p x) (list_all p xs) all).1 (omega arith)

-- a hex digit is an ASCII byte that is not 0
pub hex_digit_bounds : (c : ℕ) → is_digit c 16 ≡ true → (0 < c) × (c < 128)
hex_digit_bounds c h = (grind (arith, nat_tests), grind (arith, nat_tests))

-- more digits only make the value larger
pub le-digits_value_after : (radix n : ℕ) (ds : List ℕ) → 1 ≤ radix → n ≤ digits_value_after radix n ds
le-digits_value_after radix n [] h = le_refl n
le-digits_value_after radix n (d ∷ ds) h =
    let step : n ≤ n * radix + digit_value d = omega (arith, mul-le-mul_left n h) in
    le_trans step (le-digits_value_after radix (n * radix + digit_value d) ds h)

-- the value of a number with one more byte
pub bounded_after_some : (radix value c next : ℕ) (cs : List ℕ) → next_value radix value c ≡ Some next
    → bounded_after radix value (c ∷ cs) ≡ bounded_after radix next cs
unfolding next_value
bounded_after_some radix value c next cs e = grind (arith, nat_tests)

pub bounded_after_none : (radix value c : ℕ) (cs : List ℕ) → 1 ≤ radix → next_value radix value c ≡ None
    → bounded_after radix value (c ∷ cs) ≡ None
unfolding next_value
bounded_after_none radix value c cs some e =
    let grown = le-digits_value_after radix (value * radix + digit_value c) (digits_alone cs) some in
    grind (arith, nat_tests)

pub next_value_fits : (radix value c next : ℕ) → value ≤ 2 ^ 63 → next_value radix value c ≡ Some next → next ≤ 2 ^ 63
unfolding next_value
next_value_fits radix value c next h e = grind (arith, nat_tests)
