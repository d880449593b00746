use Rattle.deny_spec_removal.proofs.LicenceRemoval.{licences_gone}
use Rattle.deny_spec_removal.proofs.licences_can_go.Goals as goal

pub returns : goal.returns
returns c = λ d facts taken keys are unhit listed. licences_gone d facts taken keys are unhit listed
