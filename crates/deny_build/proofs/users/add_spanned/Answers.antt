use Rattle.std.proofs.Common.{arith}
use Rattle.std.proofs.lemmas.Grind.{common_steps}
use Rattle.deny_build.proofs.users.add_spanned.Goals as goal

pub returns-in-Some : goal.returns-in-Some
returns-in-Some c = λ asked. grind (arith, common_steps)
