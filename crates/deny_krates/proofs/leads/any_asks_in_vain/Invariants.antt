use Rattle.std.proofs.Common.{◌≡◌, drop, map}
use Rattle.deny_krates_graph.specs.Crates.{crate_view, dependency_view}
use Rattle.deny_krates.specs.Nodes.{asks_in_vain}
use Rattle.deny_krates.specs.private.Sources.{any_there}
use Rattle.deny_krates.proofs.leads.any_asks_in_vain.Given as goal

abbrev pub invariant-loop-at : goal.invariant-loop-at
invariant-loop-at l =
    any_there (map dependency_view l.declarations) l.kind (asks_in_vain (crate_view 0 l.krate)) (drop l.at-index l.run)
    ≡ any_there (map dependency_view l.declarations) l.kind (asks_in_vain (crate_view 0 l.krate)) l.run
