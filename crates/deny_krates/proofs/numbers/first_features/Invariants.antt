use Rattle.std.proofs.Common.{◌≡◌, ◌+◌, ◌++◌, drop, length}
use Rattle.deny_krates_graph.specs.Bounds.{node_count}
use Rattle.deny_krates_graph.specs.Crates.{crates_from}
use Rattle.deny_krates.specs.private.NodeNumbers.{features_from}
use Rattle.deny_krates.proofs.NumberLemmas.{feature_count}
use Rattle.deny_krates.proofs.numbers.first_features.Given as goal

abbrev pub invariant-loop-krate : goal.invariant-loop-krate
invariant-loop-krate l = record {
  room : l.next + feature_count (crates_from l.krate-index (drop l.krate-index l.krates))
      ≡ node_count (crates_from 0 l.krates);
  made : l.starts ++ features_from l.next (crates_from l.krate-index (drop l.krate-index l.krates))
      ≡ features_from (length l.krates) (crates_from 0 l.krates);
}
