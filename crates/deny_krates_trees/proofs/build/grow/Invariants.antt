use Rattle.std.proofs.Common.{◌<◌, length}
use Rattle.deny_krates_trees.specs.private.Growing.{AreOpen, GoesOn, work}
use Rattle.deny_krates_trees.proofs.build.grow.Given as goal

abbrev pub invariant-loop-top : goal.invariant-loop-top
invariant-loop-top l = record {
  are : AreOpen l.krates l.growth.met.keys l.growth.nodes.items;
  some : 0 < length l.growth.nodes.items;
  goes_on : GoesOn l.krates l.most l.initial.growth.met.keys l.initial.growth.nodes.items l.growth.met.keys
      l.growth.nodes.items;
}

abbrev pub decreases-loop-top : goal.decreases-loop-top
decreases-loop-top l = work l.krates l.growth.met.keys l.growth.nodes.items
