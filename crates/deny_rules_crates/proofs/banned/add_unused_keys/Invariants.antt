use Rattle.std.proofs.Common.{◌≡◌, ◌++◌, drop, filter, map, not}
use Rattle.deny_base.specs.declared.code.Code.TheVariants.{UnusedWrapper}
use Rattle.deny_spec.specs.Keys.{unused_key}
use Rattle.deny_rules_crates.specs.private.Banned.{is_hit}
use Rattle.deny_rules_crates.proofs.banned.add_unused_keys.Given as goal

abbrev pub invariant-loop-wrapper : goal.invariant-loop-wrapper
invariant-loop-wrapper l =
    l.keys ++ map (λ w. unused_key UnusedWrapper w.span) (filter (λ w. not (is_hit l.hits w.span))
    (drop l.wrapper-index l.wrappers))
    ≡ l.fn.keys ++ map (λ w. unused_key UnusedWrapper w.span) (filter (λ w. not (is_hit l.hits w.span)) l.wrappers)
