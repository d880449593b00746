use Rattle.std.proofs.Common.{refl}
use Rattle.deny_spans_manifest.proofs.targets.Targets.none.Goals as goal

pub returns : goal.returns
returns c = record { count = refl; numbers = λ agrees reports key form is. c.new.ensures.at form }
