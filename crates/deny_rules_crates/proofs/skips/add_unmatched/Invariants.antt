use Rattle.std.proofs.Common.{◌≡◌, ◌++◌, drop, map, filter, not}
use Rattle.deny_spec.specs.Keys.{unused_key}
use Rattle.deny_rules_crates.specs.private.Skipping.{does_match}
use Rattle.deny_rules_crates.proofs.skips.add_unmatched.Given as goal

abbrev pub invariant-loop-entry : goal.invariant-loop-entry
invariant-loop-entry l =
    l.keys ++ map (λ m. unused_key l.code m.span) (filter (λ m. not (does_match m)) (drop l.entry-index l.entries))
    ≡ l.fn.keys ++ map (λ m. unused_key l.code m.span) (filter (λ m. not (does_match m)) l.entries)
