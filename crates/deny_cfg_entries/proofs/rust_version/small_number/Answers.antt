use Rattle.std.proofs.Common.{arith, ◌+◌, ◌*◌, ◌^◌, ◌≤◌, get_or, drop}
use Rattle.std.proofs.lemmas.Grind.{common_steps}
use Rattle.std.proofs.lemmas.Bool.Decides.{nat_tests}
use Rattle.std.proofs.lemmas.List.{at_drop_more}
use Rattle.std.specs.Char.{digit_value}
use Rattle.std.specs.Str.Parse.{digits_value, digits_value_after}
use Rattle.deny_toml.proofs.NumbersLaws.{le-digits_value_after}
use Rattle.deny_cfg_entries.proofs.rust_version.small_number.Goals as goal

pub returns-then-number-ge4294967296 : goal.returns-then-number-ge4294967296
returns-then-number-ge4294967296 c =
    let l = c.digits in
    let ds = c.args.digits.now in
    let i = l.byte-index in
    let next = l.number * 10 + digit_value (get_or ds i 0) in
    let turn = at_drop_more (digits_value_after 10 l.number) ds i 0 c.digits-test.true in
    let grown = le-digits_value_after 10 next (drop (i + 1) ds) (omega arith) in
    let large : 2 ^ 32 ≤ digits_value 10 ds = grind (arith, common_steps) in
    grind (arith, nat_tests, common_steps)
