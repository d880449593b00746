use Rattle.deny_spec_removal.proofs.BypassRemoval.{bypasses_gone}
use Rattle.deny_spec_removal.proofs.bypasses_can_go.Goals as goal

pub returns : goal.returns
returns c = λ d facts taken keys are unhit listed. bypasses_gone d facts taken keys are unhit listed
