use Rattle.std.proofs.Common.{◌≡◌, ◌+◌, ◌-◌, ◌^◌, drop}
use Rattle.deny_krates_graph.specs.Bounds.{lock_length}
use Rattle.deny_krates_graph.specs.Crates.{crates_from}
use Rattle.deny_krates_graph.proofs.bounds.check_lock.Given as goal

abbrev pub invariant-loop-krate : goal.invariant-loop-krate
invariant-loop-krate l =
    l.left + lock_length (crates_from 0 l.krates)
    ≡ (2 ^ 29 - 1) + lock_length (crates_from l.krate-index (drop l.krate-index l.krates))
