use Rattle.std.proofs.Common.{◌≡◌, ◌++◌, drop}
use Rattle.std.specs.List.{flat_map}
use Rattle.deny_rules_crates.specs.private.Skipping.{skipped_keys_by}
use Rattle.deny_rules_crates.proofs.skips.add_skipped.Given as goal

abbrev pub invariant-loop-skip : goal.invariant-loop-skip
invariant-loop-skip l =
    l.keys ++ flat_map skipped_keys_by (drop l.skip-index l.skips) ≡ l.fn.keys ++ flat_map skipped_keys_by l.skips
