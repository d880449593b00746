use Rattle.std.proofs.Common.{◌≡◌, ◌++◌, drop, map, filter}
use Rattle.deny_base.specs.declared.code.Code.TheVariants.{UnnecessarySkip}
use Rattle.deny_cfg.specs.PolicyView.{policy_view}
use Rattle.deny_spec.specs.Keys.{unused_key}
use Rattle.deny_rules_match.specs.Marks.{facts_of}
use Rattle.deny_rules_crates.specs.private.Skipping.{is_needless_by}
use Rattle.deny_rules_crates.proofs.skips.add_unnecessary_skips.Given as goal

abbrev pub invariant-loop-skip : goal.invariant-loop-skip
invariant-loop-skip l =
    l.keys ++ map (λ m. unused_key UnnecessarySkip m.span)
    (filter (is_needless_by (policy_view l.found.cfg.now) l.found.krates.now (facts_of l.found.marks))
    (drop l.skip-index l.skips))
    ≡ l.fn.keys ++ map (λ m. unused_key UnnecessarySkip m.span)
    (filter (is_needless_by (policy_view l.found.cfg.now) l.found.krates.now (facts_of l.found.marks)) l.skips)
