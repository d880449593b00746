use Rattle.std.proofs.Common.{Contains, take}
use Rattle.std.specs.List.{flat_map}
use Rattle.deny_base_lists.specs.Ascending.{Adds}
use Rattle.deny_rules_crates.specs.private.Banned.{reported_keys_at}
use Rattle.deny_rules_crates.proofs.banned.add_reported_keys.Given as goal

abbrev pub invariant-loop-place : goal.invariant-loop-place
invariant-loop-place l = Adds (Contains (flat_map (reported_keys_at l.krates l.spans l.entry)
    (take l.place-index l.places))) l.fn.keys l.keys
