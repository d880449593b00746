use Rattle.deny_build.proofs.JoinedChecksLemmas.{joins_checks}
use Rattle.deny_build.proofs.laws.joined_checks.Goals as goal

pub returns : goal.returns
returns c = joins_checks c.args.krates.now c.krates.result.now c.krates.ensures.crates c.krates.ensures.orderly.ids
