use Rattle.std.proofs.Common.{◌≡◌, ◌++◌, drop}
use Rattle.std.specs.List.{flat_map}
use Rattle.deny_cfg.specs.PolicyView.{policy_view, roots_from}
use Rattle.deny_spec.specs.Skips.{skipped_by_root_keys_of}
use Rattle.deny_rules_match.specs.Marks.{facts_of}
use Rattle.deny_rules_crates.proofs.skips.add_skipped_by_roots.Given as goal

abbrev pub invariant-loop-number : goal.invariant-loop-number
invariant-loop-number l =
    l.keys ++ flat_map (skipped_by_root_keys_of (policy_view l.cfg) l.krates (facts_of l.marks))
    (roots_from l.number (drop l.number l.roots))
    ≡ l.fn.keys ++ flat_map (skipped_by_root_keys_of (policy_view l.cfg) l.krates (facts_of l.marks))
    (roots_from 0 l.roots)
