use Rattle.std.proofs.Common.{◌≡◌, ◌++◌, drop}
use Rattle.std.specs.List.{flat_map}
use Rattle.deny_rules_features.specs.private.Keys.{banned_keys_at}
use Rattle.deny_rules_features.proofs.banned.add_banned_crates.Given as goal

abbrev pub invariant-loop-place : goal.invariant-loop-place
invariant-loop-place l =
    l.keys ++ flat_map (banned_keys_at l.krates l.denied) (drop l.place-index l.places)
    ≡ l.fn.keys ++ flat_map (banned_keys_at l.krates l.denied) l.places
