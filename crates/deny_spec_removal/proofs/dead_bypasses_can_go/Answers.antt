use Rattle.deny_spec_removal.proofs.BypassRemoval.{bypasses_gone}
use Rattle.deny_spec_removal.proofs.DeadLemmas.{dead_bypasses}
use Rattle.deny_spec_removal.proofs.dead_bypasses_can_go.Goals as goal

pub returns : goal.returns
returns c = λ d facts counts keys dead taken are listed dead_are these.
    bypasses_gone d facts taken keys are
    (dead_bypasses c.entry_order.ensures.equal d facts counts keys dead taken dead_are these) listed
