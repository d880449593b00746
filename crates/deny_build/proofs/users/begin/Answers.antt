use Rattle.std.proofs.Common.{arith}
use Rattle.std.proofs.lemmas.Grind.{common_steps}
use Rattle.deny_build.proofs.users.begin.Goals as goal

pub returns : goal.returns
returns c = λ asked. grind (arith, common_steps)
