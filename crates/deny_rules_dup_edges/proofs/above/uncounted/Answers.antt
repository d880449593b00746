use Rattle.std.proofs.Common.{arith}
use Rattle.deny_krates.proofs.NeighbourLemmas.{edges_stay_back}
use Rattle.deny_krates.proofs.PlaceLemmas.{length_of}
use Rattle.deny_rules_dup_edges.proofs.above.uncounted.Goals as goal

pub reach_from-requires-clause-few : goal.reach_from-requires-clause-few
reach_from-requires-clause-few g c =
    let long = length_of c.krates-few.result.now c.args.krates.now.crates c.krates-few.ensures.crates in
    omega (arith, c.krates-few.ensures.few, long)

pub reach_from-requires-clause-inside : goal.reach_from-requires-clause-inside
reach_from-requires-clause-inside g c = edges_stay_back c.args.krates.now c.krates-few.ensures.orderly
