use Rattle.std.proofs.Common.{drop, ◌+◌, ◌≡◌, None, Some, ◌∙◌, ap, sym}
use Rattle.std.proofs.lemmas.List.{drop_more}
use Rattle.std.proofs.Common.{arith}
use Rattle.deny_toml_grammar.specs.Numbers.{bounded_after, next_value}
use Rattle.deny_toml_grammar.proofs.NumbersLaws.{bounded_after_some, bounded_after_none, next_value_fits}
use Rattle.deny_toml_grammar.proofs.numbers.digits_value.Goals as goal

pub returns-in_err-value : goal.returns-in_err-value
returns-in_err-value c =
    let l = c.digits in
    let none : next_value c.args.radix l.value _ ≡ None = sym c.next_value.ensures ∙ c.in_err-value.was in
    c.from_residual.ensures ∙ sym (bounded_after_none c.args.radix l.value _ (drop (l.byte-index + 1) c.args.digits.now)
    (omega (arith, c.requires.low)) none)
    ∙ ap (bounded_after c.args.radix l.value) (sym (drop_more c.args.digits.now l.byte-index 0 c.digits-test.true))
    ∙ l.invariant.1

pub digits-preserved : goal.digits-preserved
digits-preserved c =
    let l = c.digits in
    let some : next_value c.args.radix l.value _ ≡ Some c.in_ok-value.value = sym c.next_value.ensures
    ∙ c.in_ok-value.was in (
      next_value_fits c.args.radix l.value _ c.in_ok-value.value l.invariant.0 some,
      sym (bounded_after_some c.args.radix l.value _ c.in_ok-value.value (drop (l.byte-index + 1) c.args.digits.now)
          some)
          ∙ ap (bounded_after c.args.radix l.value) (sym (drop_more c.args.digits.now l.byte-index 0
          c.digits-test.true)) ∙ l.invariant.1,
    )
