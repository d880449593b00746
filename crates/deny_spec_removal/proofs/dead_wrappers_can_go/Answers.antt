use Rattle.deny_spec_removal.proofs.DeadLemmas.{dead_wrappers}
use Rattle.deny_spec_removal.proofs.WrapperRemoval.{wrappers_gone}
use Rattle.deny_spec_removal.proofs.dead_wrappers_can_go.Goals as goal

pub returns : goal.returns
returns c = λ d facts counts keys dead taken are listed dead_are these.
    wrappers_gone d facts taken keys are
    (dead_wrappers c.entry_order.ensures.equal d facts counts keys dead taken dead_are these) listed
