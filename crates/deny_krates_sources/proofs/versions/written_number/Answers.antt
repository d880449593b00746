use Rattle.std.proofs.Common.{◌≡◌, ◌^◌, ◌+◌, ◌≤◌, nat_lt, true, length, take_all, All, subst, arith, rules}
use Rattle.std.specs.Char.{is_ascii_digit}
use Rattle.std.specs.List.{list_all}
use Rattle.std.specs.Str.Parse.{digits_value}
use Rattle.std.proofs.lemmas.Bool.{and_right, le-ltb, lt-ltb}
use Rattle.std.proofs.lemmas.List.Elements.{All-more}
use Rattle.std.proofs.lemmas.List.Sums.{list_all-from_AllPass}
use Rattle.url.proofs.NumberLemmas.{digits_value-take-le}
use Rattle.deny_krates_sources.specs.Versions.{number_of}
use Rattle.deny_krates_sources.proofs.VersionsLemmas.{next_value}
use Rattle.deny_krates_sources.proofs.versions.written_number.Goals as goal

pub returns-then-number : goal.returns-then-number
unfolding number_of
returns-then-number c =
    let digits = c.args.digits.now in
    let nonempty : nat_lt 0 (length digits) ≡ true = search rules in
    let next = next_value digits _ _ c.loop-digit-test.true (search rules) c.loop-digit.invariant.1 in
    let most = digits_value-take-le 10 digits (c.loop-digit.digit-index + 1) (omega arith) in
    let large : 2 ^ 32 ≤ digits_value 10 digits = grind arith in
    rw (nonempty, and_right (list_all is_ascii_digit digits) _ (le-ltb _ _ large)) (search rules)

pub loop-digit-preserved : goal.loop-digit-preserved
loop-digit-preserved c =
    let digits = c.args.digits.now in
    let next = next_value digits _ _ c.loop-digit-test.true (search rules) c.loop-digit.invariant.1 in (
      All-more (λ b. is_ascii_digit b ≡ true) digits _ 0 c.loop-digit-test.true c.loop-digit.invariant.0 (search rules),
      grind arith,
      search rules,
    )

pub returns : goal.returns
unfolding number_of
returns c =
    let digits = c.args.digits.now in
    let whole = take_all c.loop-digit.digit-index digits (omega arith) in
    let nonempty : nat_lt 0 (length digits) ≡ true = search rules in
    let all = list_all-from_AllPass is_ascii_digit digits
    (subst (All (λ b. is_ascii_digit b ≡ true)) whole c.loop-digit.invariant.0) in
    let value = rw whole at c.loop-digit.invariant.1 in
    rw (nonempty, all, ← value, lt-ltb _ _ c.loop-digit.invariant.2) (search rules)
