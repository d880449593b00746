use Rattle.deny_krates.proofs.NeighbourLemmas.{each_needed, few_needed}
use Rattle.deny_krates.proofs.PlaceLemmas.{are_placed}
use Rattle.deny_krates.proofs.neighbours.DependenciesNeighbours.neighbours.Goals as goal

pub returns-clause-each : goal.returns-clause-each
returns-clause-each c =
    let g = c.args.self.now.krates.now in
    each_needed g (are_placed c.krates-orderly.result.now g.crates c.krates-orderly.ensures.crates)
    c.krates-orderly.ensures.orderly c.args.place c.direct_dependencies.result.now c.direct_dependencies.ensures

pub returns-clause-few : goal.returns-clause-few
returns-clause-few c =
    let g = c.args.self.now.krates.now in
    few_needed g (are_placed c.krates-orderly.result.now g.crates c.krates-orderly.ensures.crates)
    c.krates-orderly.ensures.orderly c.args.place c.direct_dependencies.result.now c.direct_dependencies.ensures
