-- The number that an argument asks for, by what parsing it as a number gives.
use Rattle.std.proofs.Common.{◌≡◌, ◌∙◌, ◌<◌, ◌≤◌, ◌^◌, ◌&&◌, ℕ, Bool, true, false, List, [], ◌∷◌, length, None, Some}
use Rattle.std.proofs.Common.{Result, Ok, Err, ap, refl, arith}
use Rattle.std.specs.Char.{is_ascii_digit}
use Rattle.std.specs.List.{list_all}
use Rattle.std.specs.Prelude.{◌==◌, not}
use Rattle.std.specs.Result.{OkIff}
use Rattle.std.specs.Str.{all_ascii_digits}
use Rattle.std.specs.Str.Parse.{ParsesUnsigned, digits_value}
use Rattle.std.proofs.lemmas.Bool.{le-leb, lt-leb}
use Rattle.std.proofs.lemmas.Result.{OkIff-at_err, OkIff-at_ok}
use Rattle.std.proofs.lemmas.Str.Parse.{numerals_by_value, parse_digits, tells_all_ascii_digits}
use Rattle.deny_cli.specs.Arguments.{count_of, is_plain, most_crates}

digits_alike : (argument : List ℕ) → all_ascii_digits argument ≡ list_all is_ascii_digit argument
digits_alike [] = refl
digits_alike (c ∷ cs) = ap (λ (b : Bool). is_ascii_digit c && b) (digits_alike cs)

are_digits : (some digits zero : Bool) → (some && (digits && zero)) ≡ true → digits ≡ true
are_digits true true zero is = refl
are_digits true false zero is = is
are_digits false true zero is = refl
are_digits false false zero is = is

is_some : (none rest : Bool) → (not none && rest) ≡ true → none ≡ false
is_some true rest is = absurd (cc is)
is_some false rest is = refl

not_empty : (argument : List ℕ) → (length argument == 0) ≡ false → 0 < length argument
not_empty [] is = absurd (cc is)
not_empty (c ∷ cs) is = omega arith

beyond : (value : ℕ) → (¬ (value < 2 ^ 32)) → most_crates < value
beyond value large = omega (arith, large)

module _ {E : Type 0} (argument : List ℕ) (read : Result ℕ E) (reads : ParsesUnsigned 32 10 argument read)
    (plain : is_plain argument ≡ true) where
  parsed : OkIff read ((0 < length argument) × (digits_value 10 argument < 2 ^ 32)) (digits_value 10 argument)
  unfolding is_plain
  parsed = parse_digits (numerals_by_value (λ ds. all_ascii_digits ds ≡ true) tells_all_ascii_digits) 32 argument read
      reads
      (digits_alike argument ∙ are_digits (not (length argument == 0)) (list_all is_ascii_digit argument) _ plain)

  pub few : (crates : ℕ) → read ≡ Ok crates → crates ≤ most_crates → Some crates ≡ count_of argument
  unfolding count_of
  few crates is small =
      let same = (OkIff-at_ok read _ _ crates parsed is).1 in
      rw (plain, ← same, le-leb crates most_crates small) refl

  pub many : (crates : ℕ) → read ≡ Ok crates → most_crates < crates → None ≡ count_of argument
  unfolding count_of
  many crates is large =
      let same = (OkIff-at_ok read _ _ crates parsed is).1 in
      rw (plain, ← same, lt-leb crates most_crates large) refl

  pub too_many : (error : E) → read ≡ Err error → None ≡ count_of argument
  unfolding count_of is_plain
  too_many error is =
      let some = not_empty argument (is_some (length argument == 0) _ plain) in
      let refused = OkIff-at_err read _ _ error parsed is in
      let large = beyond (digits_value 10 argument) (λ less. refused (some, less)) in
      rw (plain, lt-leb (digits_value 10 argument) most_crates large) refl
