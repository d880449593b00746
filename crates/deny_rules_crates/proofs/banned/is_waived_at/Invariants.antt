use Rattle.std.proofs.Common.{◌≡◌, drop, is_some}
use Rattle.std.specs.List.{list_all}
use Rattle.deny_rules_match.specs.Wrappers.{span_at}
use Rattle.deny_rules_crates.proofs.banned.is_waived_at.Given as goal

abbrev pub invariant-loop-dependent : goal.invariant-loop-dependent
invariant-loop-dependent l =
    list_all (λ d. is_some (span_at l.krates l.spans d.place)) (drop l.dependent-index l.dependents)
    ≡ list_all (λ d. is_some (span_at l.krates l.spans d.place)) l.dependents
