use Rattle.std.proofs.Common.{◌≡◌}
use Rattle.deny_krates_graph.specs.Listed.{features_of}
use Rattle.deny_krates_graph.proofs.crates.features_in.Given as goal

abbrev pub invariant-loop-feature : goal.invariant-loop-feature
invariant-loop-feature l = l.features ≡ features_of l.yielded
