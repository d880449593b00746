use Rattle.std.proofs.Common.{◌≡◌, ◌++◌, drop, map}
use Rattle.deny_spec.specs.Keys.{crate_key}
use Rattle.deny_rules_match.proofs.crate_keys.add_crate_keys.Given as goal

abbrev pub invariant-loop-place : goal.invariant-loop-place
invariant-loop-place l =
    l.keys ++ map (λ place. crate_key l.code place l.entry) (drop l.place-index l.places)
    ≡ l.fn.keys ++ map (λ place. crate_key l.code place l.entry) l.places
