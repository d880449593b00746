use Rattle.std.proofs.Common.{◌≡◌, ◌++◌, map, string_bytes}
use Rattle.deny_rules_features.proofs.steps.names_of.Given as goal

abbrev pub invariant-loop-name : goal.invariant-loop-name
invariant-loop-name l = l.names ++ map string_bytes l.name-iterator ≡ map string_bytes l.initial.name-iterator
