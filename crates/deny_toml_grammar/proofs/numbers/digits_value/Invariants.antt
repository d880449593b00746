use Rattle.std.proofs.Common.{◌≡◌, ◌≤◌, ◌^◌, drop}
use Rattle.deny_toml_grammar.specs.Numbers.{bounded_after}
use Rattle.deny_toml_grammar.proofs.numbers.digits_value.Given as goal

abbrev pub invariant-digits : goal.invariant-digits
invariant-digits l = (l.value ≤ 2 ^ 63) × (bounded_after l.radix l.value (drop l.byte-index l.digits) ≡ bounded_after
    l.radix 0 l.digits)
