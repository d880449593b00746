use Rattle.std.proofs.Common.{rules, arith, ◌≡◌, ◌-◌, ◌<◌, true, length, get_or, take, get_or-take}
use Rattle.std.proofs.lemmas.Grind.{common_steps}
use Rattle.std.proofs.lemmas.Bool.Decides.{nat_tests}
use Rattle.std.proofs.lemmas.List.{length-take-le}
use Rattle.std.specs.List.{list_all}
use Rattle.std.specs.Char.{is_digit}
use Rattle.deny_toml_grammar.specs.Strings.{hex_escape}
use Rattle.deny_toml_grammar.proofs.NumbersLaws.{list_all-at, hex_digit_bounds}
use Rattle.deny_toml_grammar.proofs.strings.hex_escape.Goals as goal

pub returns-then-bytes-len-clause-value : goal.returns-then-bytes-len-clause-value
unfolding hex_escape
returns-then-bytes-len-clause-value c = search rules

pub returns-in_err-value-clause-value : goal.returns-in_err-value-clause-value
unfolding hex_escape
returns-in_err-value-clause-value c = search rules

pub returns-then-value-gt1114111-clause-value : goal.returns-then-value-gt1114111-clause-value
unfolding hex_escape
returns-then-value-gt1114111-clause-value c = search rules

pub returns-in_err-character-clause-value : goal.returns-in_err-character-clause-value
unfolding hex_escape
returns-in_err-character-clause-value c = search rules

pub skip-requires-clause-there : goal.skip-requires-clause-there
unfolding hex_escape
skip-requires-clause-there c =
    let text = c.args.text.now in
    let n = c.args.len in
    let all : list_all (λ x. is_digit x 16) (take n text) ≡ true = grind (arith, nat_tests, common_steps) in
    let within : n - 1 < length (take n text) = omega (
      arith,
      length-take-le n text
          (omega (arith, c.as_bytes-bytes.ensures.len)),
    ) in
    let digit = list_all-at (λ x. is_digit x 16) (take n text) (n - 1) all within in
    let same : get_or (take n text) (n - 1) 0 ≡ get_or text (n - 1) 0 = get_or-take n text (n - 1) 0 (omega arith) in
    (hex_digit_bounds (get_or text (n - 1) 0) (rw same at digit)).0

pub skip-requires-clause-ascii : goal.skip-requires-clause-ascii
unfolding hex_escape
skip-requires-clause-ascii c =
    let text = c.args.text.now in
    let n = c.args.len in
    let all : list_all (λ x. is_digit x 16) (take n text) ≡ true = grind (arith, nat_tests, common_steps) in
    let within : n - 1 < length (take n text) = omega (
      arith,
      length-take-le n text
          (omega (arith, c.as_bytes-bytes.ensures.len)),
    ) in
    let digit = list_all-at (λ x. is_digit x 16) (take n text) (n - 1) all within in
    let same : get_or (take n text) (n - 1) 0 ≡ get_or text (n - 1) 0 = get_or-take n text (n - 1) 0 (omega arith) in
    (hex_digit_bounds (get_or text (n - 1) 0) (rw same at digit)).1

pub returns-clause-value : goal.returns-clause-value
unfolding hex_escape
returns-clause-value c = search rules
