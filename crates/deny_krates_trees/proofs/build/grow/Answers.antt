use Rattle.std.proofs.Common.{List, subst}
use Rattle.deny_krates_trees.specs.declared.build.Open.{Open}
use Rattle.deny_krates_trees.specs.private.Growing.{AreOpen, GrowTo}
use Rattle.deny_krates_trees.proofs.build.grow.Goals as goal

pub returns-in-Some-2 : goal.returns-in-Some-2
returns-in-Some-2 c =
    λ whole grow.
    let g = c.args.krates.now in
    let numbers = c.loop-top.growth.met.keys in
    let known = rw c.in-Some-2.is at c.in_ok-tree.ensures in
    known g c.args.most whole (subst (λ (ns : List Open). GrowTo g c.args.most whole numbers ns) c.in-Some.ensures.items
    (c.loop-top.invariant.goes_on whole grow))

pub loop-top-smaller : goal.loop-top-smaller
loop-top-smaller c =
    let g = c.args.krates.now in
    let numbers = c.loop-top.growth.met.keys in
    let known = rw c.in_default-2.is at c.in_ok-tree.ensures in
    rw c.in-Some.ensures.items (known g c.args.most (subst (λ (ns : List Open). AreOpen g numbers ns)
    c.in-Some.ensures.items c.loop-top.invariant.are)).less

pub loop-top-preserved : goal.loop-top-preserved
loop-top-preserved c =
    let g = c.args.krates.now in
    let numbers = c.loop-top.growth.met.keys in
    let known = rw c.in_default-2.is at c.in_ok-tree.ensures in
    let goes = known g c.args.most (subst (λ (ns : List Open). AreOpen g numbers ns) c.in-Some.ensures.items
    c.loop-top.invariant.are) in
    record {
      are = goes.open_nodes;
      some = goes.some;
      goes_on = λ whole grow. goes.goes_on whole (subst (λ (ns : List Open). GrowTo g c.args.most whole numbers ns)
          c.in-Some.ensures.items (c.loop-top.invariant.goes_on whole grow));
    }
