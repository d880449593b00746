use Rattle.std.proofs.Common.{◌≡◌, ◌+◌, ◌-◌, ◌==◌, true, false, ◌∙◌, inr, rules, arith}
use Rattle.std.proofs.lemmas.Grind.{common_steps}
use Rattle.std.proofs.lemmas.Bool.Decides.{nat_tests}
use Rattle.deny_toml_grammar.specs.Lexical.{first, skip_spaces}
use Rattle.deny_base_lists.proofs.ReaderLemmas.{handed_on}
use Rattle.deny_toml_grammar.specs.declared.read_error.ReadError.TheVariants.{Memory}
use Rattle.deny_toml_grammar.proofs.StringsLaws.{fails_with}
use Rattle.deny_toml_grammar.proofs.KeysLaws.{key_after_zero, key_after_none, key_after_last, key_after_more}
use Rattle.deny_toml_grammar.proofs.keys.key.Goals as goal

pub returns-in_err-part-clause-value : goal.returns-in_err-part-clause-value
returns-in_err-part-clause-value c =
    let l = c.parts in
    handed_on Memory _ _ c.from_residual.result c.in_err-part.field-0.0 c.from_residual.ensures.1
    (fails_with c.in_err-part.field-0.0 _ _ (λ none. l.invariant.2
    ∙ key_after_none (64 - l._part) c.args.total l.path l.rest.now none) c.in_err-part.ensures.value)

pub returns-then-first-ne46-clause-value : goal.returns-then-first-ne46-clause-value
returns-then-first-ne46-clause-value c =
    let l = c.parts in
    let after = c.in_ok-part.after.now in
    let last : (first (skip_spaces after) == 46) ≡ false = grind (arith, nat_tests, common_steps) in
    let read = key_after_last (64 - l._part) c.args.total l.path l.rest.now after c.in_ok-part.part (omega arith)
    c.in_ok-part.ensures.value last in
    l.invariant.2 ∙ read ∙ rw (c.in_ok-push.ensures.ok, c.skip_spaces-after.ensures.rest)

pub parts-preserved : goal.parts-preserved
parts-preserved c =
    let l = c.parts in
    let after = c.in_ok-part.after.now in
    let more : (first (skip_spaces after) == 46) ≡ true = grind (arith, nat_tests, common_steps) in
    let read = key_after_more (64 - l._part) c.args.total l.path l.rest.now after c.in_ok-part.part (omega arith)
    c.in_ok-part.ensures.value more in
    let less : (64 - l._part) - 1 ≡ 64 - (l._part + 1) = omega arith in (
      search rules,
      omega (
        arith,
        l.invariant.1,
        c.in_ok-part.ensures.shorter,
        c.skip_spaces-after.ensures.within,
        c.skip.ensures.shorter,
        c.skip_spaces-rest.ensures.within,
      ),
      l.invariant.2 ∙ read ∙ rw (
        less,
        c.in_ok-push.ensures.ok,
        c.skip_spaces-rest.ensures.rest,
        c.skip.ensures.rest,
        c.skip_spaces-after.ensures.rest,
      ),
    )

pub returns-clause-value : goal.returns-clause-value
returns-clause-value c =
    let l = c.parts in
    let none : 64 - l._part ≡ 0 = omega arith in
    inr (l.invariant.2 ∙ rw none (key_after_zero _ _ _))

pub returns-in_err-push-clause-value : goal.returns-in_err-push-clause-value
returns-in_err-push-clause-value c = search rules
