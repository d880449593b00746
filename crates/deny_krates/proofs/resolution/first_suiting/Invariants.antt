use Rattle.std.proofs.Common.{◌≡◌, drop, find}
use Rattle.deny_krates_graph.specs.Crates.{crates_from, dependency_view}
use Rattle.deny_spec.specs.Resolution.{suits}
use Rattle.deny_krates.proofs.resolution.first_suiting.Given as goal

abbrev pub invariant-loop-edge : goal.invariant-loop-edge
invariant-loop-edge l =
    find (suits (crates_from 0 l.krates) (dependency_view l.declaration)) (drop l.edge-index l.edges)
    ≡ find (suits (crates_from 0 l.krates) (dependency_view l.declaration)) l.edges
