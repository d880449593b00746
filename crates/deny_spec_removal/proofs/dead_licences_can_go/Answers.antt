use Rattle.deny_spec_removal.proofs.DeadLemmas.{dead_licences}
use Rattle.deny_spec_removal.proofs.LicenceRemoval.{licences_gone}
use Rattle.deny_spec_removal.proofs.dead_licences_can_go.Goals as goal

pub returns : goal.returns
returns c = λ d facts counts keys dead taken are reports listed dead_are these.
    licences_gone d facts taken keys are
    (dead_licences c.entry_order.ensures.equal d facts counts keys dead taken dead_are reports these) listed
