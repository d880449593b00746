use Rattle.std.proofs.Common.{◌≡◌, ◌++◌, drop, filter}
use Rattle.deny_spec_report.specs.Features.{is_plain}
use Rattle.deny_rules_features.proofs.reached.add_plain_entries.Given as goal

abbrev pub invariant-loop-entry : goal.invariant-loop-entry
invariant-loop-entry l =
    l.texts ++ filter is_plain (drop l.entry-index l.entries) ≡ l.fn.texts ++ filter is_plain l.entries
