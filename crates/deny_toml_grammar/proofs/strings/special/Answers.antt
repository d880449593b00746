use Rattle.std.proofs.Common.{[], ◌∷◌, Some, refl, slice_index, rules, arith}
use Rattle.std.proofs.lemmas.Grind.{common_steps}
use Rattle.std.proofs.lemmas.Bool.Decides.{nat_tests}
use Rattle.deny_toml_grammar.specs.Strings.{special}
use Rattle.deny_toml_grammar.proofs.strings.special.Goals as goal

pub returns-then-multi-clause-value : goal.returns-then-multi-clause-value
unfolding special
returns-then-multi-clause-value c = search rules

pub returns-else-multi-clause-value : goal.returns-else-multi-clause-value
unfolding special
returns-else-multi-clause-value c = search rules

pub returns-then-byte-eq92-clause-value : goal.returns-then-byte-eq92-clause-value
unfolding special
returns-then-byte-eq92-clause-value c = search rules

pub returns-in_ok-push-clause-value : goal.returns-in_ok-push-clause-value
unfolding special
returns-in_ok-push-clause-value c = (
  Some (slice_index c.args.text.now 0 ∷ []),
  grind (arith, nat_tests, common_steps),
  refl,
  search rules,
)

pub returns-else-multi-2-clause-value : goal.returns-else-multi-2-clause-value
unfolding special
returns-else-multi-2-clause-value c = search rules

pub returns-in_err-push-clause-value : goal.returns-in_err-push-clause-value
returns-in_err-push-clause-value c = search rules
