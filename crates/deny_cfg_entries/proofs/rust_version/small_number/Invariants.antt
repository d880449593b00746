use Rattle.std.proofs.Common.{◌≡◌, ◌^◌, ◌<◌, drop}
use Rattle.std.specs.List.{list_all}
use Rattle.std.specs.Char.{is_digit}
use Rattle.std.specs.Str.Parse.{digits_value, digits_value_after}
use Rattle.deny_cfg_entries.proofs.rust_version.small_number.Given as goal

abbrev pub invariant-digits : goal.invariant-digits
invariant-digits l =
    (l.number < 2 ^ 32) × (digits_value_after 10 l.number (drop l.byte-index l.digits) ≡ digits_value 10 l.digits)
    × (list_all (λ c. is_digit c 10) (drop l.byte-index l.digits) ≡ list_all (λ c. is_digit c 10) l.digits)
