use Rattle.deny_rules_features.proofs.NumberLemmas.{AreNumbersOf}
use Rattle.deny_rules_features.proofs.steps.numbers_of.Given as goal

abbrev pub invariant-loop-number : goal.invariant-loop-number
invariant-loop-number l = AreNumbersOf l.number l.names l.numbers
