use Rattle.std.proofs.Common.{◌≡◌, drop, find}
use Rattle.std.specs.Prelude.{◌&&◌}
use Rattle.deny_krates_graph.specs.Crates.{crates_from, dependency_view}
use Rattle.deny_spec.specs.Resolution.{is_wanted, suits}
use Rattle.deny_krates.proofs.resolution.first_wanted.Given as goal

abbrev pub invariant-loop-edge : goal.invariant-loop-edge
invariant-loop-edge l =
    find (λ e. is_wanted (crates_from 0 l.krates) (dependency_view l.declaration) e.child
    && suits (crates_from 0 l.krates) (dependency_view l.declaration) e) (drop l.edge-index l.edges)
    ≡ find (λ e. is_wanted (crates_from 0 l.krates) (dependency_view l.declaration) e.child
    && suits (crates_from 0 l.krates) (dependency_view l.declaration) e) l.edges
