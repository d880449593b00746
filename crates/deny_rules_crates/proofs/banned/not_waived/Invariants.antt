use Rattle.std.proofs.Common.{◌≡◌, ◌++◌, drop, filter, not}
use Rattle.deny_rules_crates.specs.private.Banned.{is_waived_at}
use Rattle.deny_rules_crates.proofs.banned.not_waived.Given as goal

abbrev pub invariant-loop-place : goal.invariant-loop-place
invariant-loop-place l =
    l.banned ++ filter (λ place. not (is_waived_at l.krates l.spans place)) (drop l.place-index l.places)
    ≡ filter (λ place. not (is_waived_at l.krates l.spans place)) l.places
