use Rattle.std.proofs.Common.{◌≡◌, ◌++◌, drop, map}
use Rattle.deny_rules_crates.proofs.DependentKeyLemmas.{key_at}
use Rattle.deny_rules_crates.proofs.banned.add_reported_keys_at.Given as goal

abbrev pub invariant-loop-dependent : goal.invariant-loop-dependent
invariant-loop-dependent l =
    l.keys ++ map (λ d. key_at l.krates l.spans l.entry l.place d.place) (drop l.dependent-index l.dependents)
    ≡ l.fn.keys ++ map (λ d. key_at l.krates l.spans l.entry l.place d.place) l.dependents
