use Rattle.std.proofs.Common.{◌≡◌, ◌++◌, ◌-◌, length}
use Rattle.std.specs.List.{flat_map, range_with_len}
use Rattle.deny_rules_features.specs.private.Reached.{led_to_by}
use Rattle.deny_rules_features.proofs.reached.led_to.Given as goal

abbrev pub invariant-loop-number : goal.invariant-loop-number
invariant-loop-number l =
    l.texts ++ flat_map (led_to_by l.features l.names l.marks) (range_with_len l.number (length l.names - l.number))
    ≡ flat_map (led_to_by l.features l.names l.marks) (range_with_len 0 (length l.names))
