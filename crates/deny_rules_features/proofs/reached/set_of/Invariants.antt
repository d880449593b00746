use Rattle.std.proofs.Common.{take}
use Rattle.deny_rules_features.specs.private.Reached.{IsSetOf}
use Rattle.deny_rules_features.proofs.reached.set_of.Given as goal

abbrev pub invariant-loop-text : goal.invariant-loop-text
invariant-loop-text l = IsSetOf (take l.text-index l.texts) l.set
