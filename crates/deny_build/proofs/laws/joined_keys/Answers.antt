use Rattle.deny_build.proofs.JoinedLemmas.{joined_all}
use Rattle.deny_build.proofs.laws.joined_keys.Goals as goal

pub returns : goal.returns
returns c = joined_all
