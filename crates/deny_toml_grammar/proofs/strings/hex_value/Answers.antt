use Rattle.std.proofs.Common.{arith, ◌+◌, ◌*◌, ◌^◌, ◌≤◌, get_or, drop}
use Rattle.std.proofs.lemmas.Grind.{common_steps}
use Rattle.std.proofs.lemmas.Bool.Decides.{nat_tests}
use Rattle.std.proofs.lemmas.List.{at_drop_more}
use Rattle.std.specs.Char.{digit_value}
use Rattle.std.specs.Str.Parse.{digits_value, digits_value_after}
use Rattle.deny_toml_grammar.proofs.NumbersLaws.{le-digits_value_after}
use Rattle.deny_toml_grammar.proofs.strings.hex_value.Goals as goal

pub returns-then-next-clause-value : goal.returns-then-next-clause-value
returns-then-next-clause-value c =
    let l = c.digits in
    let ds = c.args.digits.now in
    let i = l.byte-index in
    let next = l.value * 16 + digit_value (get_or ds i 0) in
    let turn = at_drop_more (digits_value_after 16 l.value) ds i 0 c.digits-test.true in
    let grown = le-digits_value_after 16 next (drop (i + 1) ds) (omega arith) in
    let large : 2 ^ 63 ≤ digits_value 16 ds = grind (arith, common_steps) in
    grind (arith, nat_tests, common_steps)
