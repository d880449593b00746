use Rattle.std.proofs.Common.{sym}
use Rattle.deny_krates.proofs.PlaceLemmas.{length_of}
use Rattle.deny_krates.proofs.neighbours.DependenciesNeighbours.count.Goals as goal

pub returns : goal.returns
returns c = sym (length_of c.krates.result.now c.args.self.now.krates.now.crates c.krates.ensures.crates)
