use Rattle.deny_krates.proofs.GetLemmas.{got}
use Rattle.deny_krates.proofs.ResolutionLemmas.{crate_got}
use Rattle.deny_krates.proofs.resolution.placed_krate.Goals as goal

pub returns : goal.returns
returns c = crate_got c.args.krates.now c.args.place c.get.result
    (got c.args.krates.now c.args.place c.get.result c.get.ensures.lookup.3)
