use Rattle.std.proofs.Common.{[], ◌∷◌, Some, refl, rules, arith}
use Rattle.std.proofs.lemmas.Grind.{common_steps}
use Rattle.std.proofs.lemmas.Bool.Decides.{nat_tests}
use Rattle.deny_toml_grammar.proofs.strings.at_delimiters.Goals as goal

pub returns-in_ok-push-clause-value : goal.returns-in_ok-push-clause-value
returns-in_ok-push-clause-value c = (
  Some (c.args.delimiter ∷ []),
  grind (arith, nat_tests, common_steps),
  refl,
  search
      rules,
)
