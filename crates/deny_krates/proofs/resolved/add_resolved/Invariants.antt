use Rattle.std.proofs.Common.{◌≡◌, ◌++◌, drop, map}
use Rattle.deny_krates_graph.specs.Crates.{crates_from, dependency_view}
use Rattle.deny_krates.specs.private.Resolved.{resolved_from}
use Rattle.deny_krates.proofs.resolved.add_resolved.Given as goal
use Rattle.deny_spec.specs.Graph.{Graph}

abbrev pub invariant-loop-index : goal.invariant-loop-index
invariant-loop-index l = (g : Graph) → g.crates ≡ crates_from 0 l.krates → g.target_edges ≡ l.edges
    → l.resolved ++ resolved_from g l.parent l.index (map dependency_view (drop l.index l.declarations))
    ≡ l.fn.resolved ++ resolved_from g l.parent 0 (map dependency_view l.declarations)
