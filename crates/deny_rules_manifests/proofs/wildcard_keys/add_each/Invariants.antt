use Rattle.std.proofs.Common.{◌≡◌, ◌++◌, ◌-◌}
use Rattle.std.specs.List.{flat_map, range_with_len}
use Rattle.deny_cfg.specs.PolicyView.{policy_view}
use Rattle.deny_spans.specs.SpansView.{spans_view}
use Rattle.deny_rules_manifests.specs.private.Wildcards.{found_keys_at}
use Rattle.deny_rules_manifests.proofs.wildcard_keys.add_each.Given as goal

abbrev pub invariant-loop-place : goal.invariant-loop-place
invariant-loop-place l =
    l.keys ++ flat_map (found_keys_at (policy_view l.cfg) l.krates (spans_view l.spans) l.asked)
    (range_with_len l.place (l.end - l.place))
    ≡ l.fn.keys ++ flat_map (found_keys_at (policy_view l.cfg) l.krates (spans_view l.spans) l.asked)
    (range_with_len 0 l.end)
