use Rattle.deny_krates.proofs.PlaceLemmas.{are_placed}
use Rattle.deny_rules_match.proofs.placed.are_placed.Goals as goal

pub returns : goal.returns
returns c = are_placed c.krates.result.now c.args.krates.now.crates c.krates.ensures.crates
