use Rattle.std.proofs.Common.{◌≡◌, ◌^◌, ◌<◌, drop}
use Rattle.std.specs.List.{list_all}
use Rattle.std.specs.Char.{is_digit}
use Rattle.std.specs.Str.Parse.{digits_value, digits_value_after}
use Rattle.deny_toml_grammar.proofs.strings.hex_value.Given as goal

abbrev pub invariant-digits : goal.invariant-digits
invariant-digits l =
    (l.value < 2 ^ 63) × (digits_value_after 16 l.value (drop l.byte-index l.digits) ≡ digits_value 16 l.digits)
    × (list_all (λ c. is_digit c 16) (drop l.byte-index l.digits) ≡ list_all (λ c. is_digit c 16) l.digits)
