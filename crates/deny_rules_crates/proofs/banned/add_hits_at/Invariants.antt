use Rattle.std.proofs.Common.{◌≡◌, ◌++◌, drop}
use Rattle.std.specs.Prelude.{filter_map}
use Rattle.deny_rules_match.specs.Wrappers.{span_at}
use Rattle.deny_rules_crates.proofs.banned.add_hits_at.Given as goal

abbrev pub invariant-loop-dependent : goal.invariant-loop-dependent
invariant-loop-dependent l =
    l.hits ++ filter_map (λ d. span_at l.krates l.spans d.place) (drop l.dependent-index l.dependents)
    ≡ l.fn.hits ++ filter_map (λ d. span_at l.krates l.spans d.place) l.dependents
