-- Each byte of a decimal number is a digit.
use Rattle.std.proofs.Common.{◌≡◌, ◌<◌, ◌/◌, ◌%◌, ◌==◌, ◌∷◌, [], ℕ, List, Bool, true, false, zero, suc, refl, arith}
use Rattle.std.proofs.lemmas.Bool.Decides.{nat_tests}
use Rattle.std.specs.Char.{is_ascii_digit}
use Rattle.std.specs.Fmt.{decimal, digit_glyph, digits, digits_onto}
use Rattle.std.specs.List.{list_all}
use Rattle.std.specs.Prelude.{if◌then◌else◌}

glyph-digit : (d : ℕ) → d < 10 → is_ascii_digit (digit_glyph false d) ≡ true
glyph-digit d small = grind (arith, nat_tests)

glyph_before : (n : ℕ) (acc : List ℕ) → list_all is_ascii_digit acc ≡ true
    → list_all is_ascii_digit (digit_glyph false (n % 10) ∷ acc) ≡ true
glyph_before n acc all =
    let here : is_ascii_digit (digit_glyph false (n % 10)) ≡ true = glyph-digit (n % 10) (omega arith) in rw here all

onto_by : (is : Bool) (one other : List ℕ) → list_all is_ascii_digit one ≡ true → list_all is_ascii_digit other ≡ true
    → list_all is_ascii_digit (if is then one else other) ≡ true
onto_by true one other a b = a
onto_by false one other a b = b

onto-digits : (k n : ℕ) (acc : List ℕ) → list_all is_ascii_digit acc ≡ true
    → list_all is_ascii_digit (digits_onto k 10 false n acc) ≡ true
onto-digits zero n acc all = all
onto-digits (suc k) n acc all =
    let now = digit_glyph false (n % 10) ∷ acc in
    let are = glyph_before n acc all in
    onto_by (n / 10 == 0) now (digits_onto k 10 false (n / 10) now) are (onto-digits k (n / 10) now are)

pub decimal-digits : (n : ℕ) → list_all is_ascii_digit (decimal n) ≡ true
unfolding digits
decimal-digits n = onto-digits 64 n [] refl
