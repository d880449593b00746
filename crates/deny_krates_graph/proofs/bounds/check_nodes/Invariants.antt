use Rattle.std.proofs.Common.{◌≡◌, ◌+◌, ◌-◌, ◌^◌, drop}
use Rattle.deny_krates_graph.specs.Bounds.{node_count}
use Rattle.deny_krates_graph.specs.Crates.{crates_from}
use Rattle.deny_krates_graph.proofs.bounds.check_nodes.Given as goal

abbrev pub invariant-loop-krate : goal.invariant-loop-krate
invariant-loop-krate l =
    l.left + node_count (crates_from 0 l.krates)
    ≡ (2 ^ 32 - 1) + node_count (crates_from l.krate-index (drop l.krate-index l.krates))
