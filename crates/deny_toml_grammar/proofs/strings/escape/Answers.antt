use Rattle.std.proofs.Common.{rules, arith, [], Some, refl, sym, append-nil}
use Rattle.std.proofs.lemmas.Grind.{common_steps}
use Rattle.std.proofs.lemmas.Bool.Decides.{nat_tests}
use Rattle.std.specs.Char.{encode_utf8}
use Rattle.deny_toml_grammar.specs.Strings.{escape}
use Rattle.deny_toml_grammar.proofs.strings.escape.Goals as goal

pub returns-then-starts_newline-clause-value : goal.returns-then-starts_newline-clause-value
unfolding escape
returns-then-starts_newline-clause-value c =
    (Some [], grind (arith, nat_tests, common_steps), refl, sym (append-nil _))

pub returns-in_default-clause-value : goal.returns-in_default-clause-value
unfolding escape
returns-in_default-clause-value c = search rules

pub returns-clause-value : goal.returns-clause-value
unfolding escape
returns-clause-value c = (
  Some (encode_utf8 c.in-Some.character),
  grind (arith, nat_tests, common_steps),
  refl,
  search
      rules,
)

pub returns-in_err-push-clause-value : goal.returns-in_err-push-clause-value
returns-in_err-push-clause-value c = search rules
