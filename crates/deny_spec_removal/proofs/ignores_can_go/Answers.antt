use Rattle.deny_spec_removal.proofs.IgnoreRemoval.{ignores_gone}
use Rattle.deny_spec_removal.proofs.ignores_can_go.Goals as goal

pub returns : goal.returns
returns c = λ d facts taken keys are unhit listed. ignores_gone d facts taken keys are unhit listed
