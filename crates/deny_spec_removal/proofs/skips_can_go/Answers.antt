use Rattle.deny_spec_removal.proofs.SkipRemoval.{skips_gone}
use Rattle.deny_spec_removal.proofs.skips_can_go.Goals as goal

pub returns : goal.returns
returns c = λ d facts taken keys are unhit listed. skips_gone d facts taken keys are unhit listed
