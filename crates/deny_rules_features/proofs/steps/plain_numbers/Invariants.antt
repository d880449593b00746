use Rattle.std.proofs.Common.{◌≡◌, ◌++◌, drop, filter_map}
use Rattle.deny_rules_features.specs.private.Steps.{plain_number}
use Rattle.deny_rules_features.proofs.steps.plain_numbers.Given as goal

abbrev pub invariant-loop-entry : goal.invariant-loop-entry
invariant-loop-entry l =
    l.row ++ filter_map (plain_number l.numbers) (drop l.entry-index l.entries)
    ≡ filter_map (plain_number l.numbers) l.entries
