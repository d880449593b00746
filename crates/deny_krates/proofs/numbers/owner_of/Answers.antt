use Rattle.std.proofs.Common.{arith}
use Rattle.deny_krates.proofs.NumberLemmas.{last_up_to}
use Rattle.deny_krates.proofs.numbers.owner_of.Goals as goal

pub returns : goal.returns
returns c =
    (last_up_to c.args.starts.now c.args.number c.above.result c.requires.some c.requires.first c.above.ensures.within
    (λ k d a. c.above.ensures.point.0 k d (omega arith) a) (λ k d a b. c.above.ensures.point.1 k d a b)).1
