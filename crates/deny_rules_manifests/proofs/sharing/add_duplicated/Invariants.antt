use Rattle.std.proofs.Common.{◌≡◌, ◌++◌, ◌-◌}
use Rattle.std.specs.List.{flat_map, range_with_len}
use Rattle.deny_rules_manifests.specs.Uses.{rows_in}
use Rattle.deny_rules_manifests.specs.private.Sharing.{duplicated_keys_at}
use Rattle.deny_rules_manifests.proofs.sharing.add_duplicated.Given as goal

abbrev pub invariant-loop-place : goal.invariant-loop-place
invariant-loop-place l =
    l.keys ++ flat_map (duplicated_keys_at (rows_in l.uses)) (range_with_len l.place (l.end - l.place))
    ≡ l.fn.keys ++ flat_map (duplicated_keys_at (rows_in l.uses)) (range_with_len 0 l.end)
