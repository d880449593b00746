use Rattle.std.proofs.Common.{refl}
use Rattle.deny_spec.specs.Bans.{wrapper_of}
use Rattle.deny_spec.specs.Wrappers.{wraps}
use Rattle.deny_spec_report.proofs.laws.first_wrapper.Goals as goal

pub returns : goal.returns
unfolding wrapper_of wraps
returns c = λ wrappers w parent. (refl, refl)
