use Rattle.std.proofs.Common.{◌≡◌, map}
use Rattle.deny_krates_graph.specs.Crates.{dependency_view}
use Rattle.deny_krates_graph.specs.private.Taken.{dependency_with, requirement_held}
use Rattle.deny_krates_graph.proofs.crates.declared_dependencies.Given as goal

abbrev pub invariant-loop-declaration : goal.invariant-loop-declaration
invariant-loop-declaration l =
    map dependency_view l.deps ≡ map (λ p. dependency_with p.0 (requirement_held p.1)) l.yielded
