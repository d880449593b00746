use Rattle.std.proofs.Common.{◌≡◌, ◌++◌, drop, map}
use Rattle.deny_rules_features.specs.private.Steps.{row_of}
use Rattle.deny_rules_features.proofs.steps.rows_of.Given as goal

abbrev pub invariant-loop-name : goal.invariant-loop-name
invariant-loop-name l =
    l.rows ++ map (row_of l.features l.numbers) (drop l.name-index l.names) ≡ map (row_of l.features l.numbers) l.names
