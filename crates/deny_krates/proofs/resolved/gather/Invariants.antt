use Rattle.std.proofs.Common.{◌≡◌, ◌++◌, drop}
use Rattle.deny_krates_graph.specs.Crates.{crates_from}
use Rattle.deny_krates.specs.private.Resolved.{resolved_in}
use Rattle.deny_krates.proofs.resolved.gather.Given as goal
use Rattle.deny_spec.specs.Graph.{Graph}

abbrev pub invariant-loop-parent : goal.invariant-loop-parent
invariant-loop-parent l = (g : Graph) → g.crates ≡ crates_from 0 l.krates → g.target_edges ≡ l.edges
    → l.resolved ++ resolved_in g (crates_from l.parent (drop l.parent l.krates))
    ≡ resolved_in g (crates_from 0 l.krates)
