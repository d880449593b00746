use Rattle.std.proofs.Common.{◌≡◌, map, take}
use Rattle.deny_krates_trees.specs.private.Growing.{edge_from}
use Rattle.deny_krates_trees.proofs.parents.dependents_of.Given as goal

abbrev pub invariant-loop-dependent : goal.invariant-loop-dependent
invariant-loop-dependent l = l.edges ≡ map edge_from (take l.dependent-index l.dependent-items)
