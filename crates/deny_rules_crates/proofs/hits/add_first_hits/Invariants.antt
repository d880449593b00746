use Rattle.std.proofs.Common.{◌≡◌, ◌++◌, drop}
use Rattle.std.specs.Prelude.{filter_map}
use Rattle.deny_rules_crates.specs.private.WrappedEdges.{hit_at}
use Rattle.deny_rules_crates.proofs.hits.add_first_hits.Given as goal

abbrev pub invariant-loop-wrapper : goal.invariant-loop-wrapper
invariant-loop-wrapper l =
    l.hits ++ filter_map (hit_at l.krates l.firsts) (drop l.wrapper-index l.wrappers) ≡ l.fn.hits ++ filter_map
    (hit_at l.krates l.firsts) l.wrappers
