use Rattle.std.proofs.Common.{arith}
use Rattle.deny_krates.proofs.NeighbourLemmas.{edges_stay}
use Rattle.deny_krates.proofs.DistanceLemmas.{distances_by_steps}
use Rattle.deny_krates.proofs.PlaceLemmas.{length_of}
use Rattle.deny_krates.proofs.distances.distances_from.Goals as goal

pub breadth_first-requires-clause-few : goal.breadth_first-requires-clause-few
breadth_first-requires-clause-few c =
    let long = length_of c.krates-few.result.now c.args.krates.now.crates c.krates-few.ensures.crates in
    omega (arith, c.krates-few.ensures.few, long)

pub breadth_first-requires-clause-inside : goal.breadth_first-requires-clause-inside
breadth_first-requires-clause-inside c = edges_stay c.args.krates.now c.krates-few.ensures.orderly

pub returns : goal.returns
returns c = distances_by_steps c.args.krates.now c.args.roots.now c.in_ok-distances.distances c.in_ok-distances.ensures
