use Rattle.std.proofs.Common.{arith, subst, sym}
use Rattle.deny_base_lists.proofs.Fuel.{Fuel, fuel_start, fuel_next}
use Rattle.deny_base_lists.proofs.SearchLemmas.{between_all, gap_between}
use Rattle.deny_base_lists.proofs.search.binary_search.Goals as goal

pub loop-low-init : goal.loop-low-init
loop-low-init g c = record {
  between = between_all c.args.records.now (g.W.Wanted.name c.args.wanted.now);
  fuel = λ d p. fuel_start d c.args.steps.now _ p;
}

pub loop-low-preserved : goal.loop-low-preserved
loop-low-preserved g c =
    let half = rw c.in-Between.is at c.halve.ensures.ok in
    record {
      between = half.between;
      fuel = λ d p. subst (λ s. Fuel d c.args.steps.now s c.in-Between.next_low c.in-Between.next_high)
          (sym c.halve.ensures.steps) (fuel_next c.loop-low-test.true half.half (c.loop-low.invariant.fuel d p));
    }

pub loop-low-smaller : goal.loop-low-smaller
loop-low-smaller g c =
    let half = rw c.in-Between.is at c.halve.ensures.ok in
    omega (arith, half.fewer, half.between.ordered, c.loop-low-test.true)

pub returns-in-Found-clause-found : goal.returns-in-Found-clause-found
returns-in-Found-clause-found g c = rw c.in-Found.is at c.halve.ensures.ok

pub returns-in-Found-clause-steps : goal.returns-in-Found-clause-steps
returns-in-Found-clause-steps g c d p =
    let f = c.loop-low.invariant.fuel d p in
    let next = fuel_next {low' = c.loop-low.high} {high' = c.loop-low.high} c.loop-low-test.true
    (omega (arith, c.loop-low-test.true)) f in
    omega (arith, next.sum, c.halve.ensures.steps)

pub returns-clause-absent : goal.returns-clause-absent
returns-clause-absent g c = gap_between c.loop-low-test.false c.loop-low.invariant.between

pub returns-clause-steps : goal.returns-clause-steps
returns-clause-steps g c d p = let f = c.loop-low.invariant.fuel d p in omega (arith, f.sum)
