-- Texts that a JSON string writes without escapes.
use Rattle.std.proofs.Common.{◌≡◌, ◌≤◌, ◌<◌, ◌/◌, ◌%◌, ◌^◌, ◌==◌, ◌∙◌, ◌++◌, ℕ, Bool, true, false, List, ap₂, arith}
use Rattle.std.proofs.Common.{codes, get_or, if◌then◌else◌, refl}
use Rattle.std.proofs.lemmas.Bool.{le-ltb, ne_eqb}
use Rattle.std.proofs.lemmas.Fmt.{decimal_is_IsNumeral}
use Rattle.std.proofs.lemmas.Grind.{flat_map-append}
use Rattle.std.proofs.lemmas.Str.Parse.{digit_at}
use Rattle.std.specs.Fmt.{decimal}
use Rattle.json.proofs.Printed.Plain.{escape_on_plain}
use Rattle.json.specs.Print.{escape, escape_byte}
use Rattle.json.specs.Run.{is_plain}
use Rattle.deny_cli_generator.specs.Made.{name_at, name_of, version_at}
use Rattle.deny_cli_generator.specs.MetadataText.{id_at, path_text, registry}

clean-append : (prefix back : List ℕ) → escape prefix ≡ prefix → escape back ≡ back
    → escape (prefix ++ back) ≡ prefix ++ back
clean-append prefix back first second =
    flat_map-append escape_byte prefix back ∙ ap₂ (λ (x y : List ℕ). x ++ y) first second

plain_digit : (byte : ℕ) → 48 ≤ byte → byte ≤ 57 → is_plain byte ≡ true
plain_digit byte least most = rw (
  ne_eqb byte 34 (λ is. omega arith),
  ne_eqb byte 92 (λ is. omega arith),
  le-ltb byte 32 (omega arith),
)

decimal_clean : (n : ℕ) → n < 2 ^ 64 → escape (decimal n) ≡ decimal n
decimal_clean n small = escape_on_plain true (decimal n) (λ k from less.
    let digit = digit_at (decimal n) k (decimal_is_IsNumeral n small).0.1 less in
    plain_digit (get_or (decimal n) k 0) digit.0 digit.1)

-- a number below 2^64
abbrev pub IsFew : ℕ → Type 0
IsFew number = number < 2 ^ 64

name_clean : (number : ℕ) → IsFew number → escape (name_of number) ≡ name_of number
unfolding name_of escape_byte
name_clean number few = clean-append (codes "c") (decimal number) refl (decimal_clean number few)

either_clean : (b : Bool) (prefix back : List ℕ) → escape prefix ≡ prefix → escape back ≡ back
    → escape (if b then prefix else back) ≡ (if b then prefix else back)
either_clean true prefix back first second = first
either_clean false prefix back first second = second

pub version_at-clean : (number : ℕ) → escape (version_at number) ≡ version_at number
unfolding version_at escape_byte
version_at-clean number = either_clean (number % 2 == 0) (codes "1.0.0") (codes "2.0.0") refl refl

pub registry-clean : escape registry ≡ registry
unfolding registry escape_byte
registry-clean = refl

module _ (number : ℕ) (few : IsFew number) where
  pub name_at-clean : escape (name_at number) ≡ name_at number
  unfolding name_at
  name_at-clean = name_clean (number / 2) (omega (arith, few))

  pub id_at-clean : escape (id_at number) ≡ id_at number
  unfolding id_at escape_byte
  id_at-clean = clean-append registry _ registry-clean
      (clean-append (codes "#") _ refl (clean-append (name_at number) _ name_at-clean
      (clean-append (codes "@") (version_at number) refl (version_at-clean number))))

  pub path_text-clean : escape (path_text number) ≡ path_text number
  unfolding path_text escape_byte
  path_text-clean = clean-append (codes "/r/") _ refl (clean-append (name_at number) _ name_at-clean
      (clean-append (codes "-") _ refl (clean-append (version_at number) _ (version_at-clean number) refl)))
