use Rattle.std.proofs.Common.{◌≡◌, false, drop}
use Rattle.std.specs.Char.{is_digit}
use Rattle.deny_toml_grammar.specs.Numbers.{groups}
use Rattle.deny_toml_grammar.proofs.numbers.are_digits.Given as goal

abbrev pub invariant-digits : goal.invariant-digits
invariant-digits l = groups (λ c. is_digit c l.radix) l.after_digit (drop l.byte-index l.digits) ≡ groups
    (λ c. is_digit c l.radix) false l.digits
