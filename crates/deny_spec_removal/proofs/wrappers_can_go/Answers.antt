use Rattle.deny_spec_removal.proofs.WrapperRemoval.{wrappers_gone}
use Rattle.deny_spec_removal.proofs.wrappers_can_go.Goals as goal

pub returns : goal.returns
returns c = λ d facts taken keys are unhit listed. wrappers_gone d facts taken keys are unhit listed
