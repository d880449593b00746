use Rattle.deny_spec_removal.proofs.DeadLemmas.{dead_skips}
use Rattle.deny_spec_removal.proofs.SkipRemoval.{skips_gone}
use Rattle.deny_spec_removal.proofs.dead_skips_can_go.Goals as goal

pub returns : goal.returns
returns c = λ d facts counts keys dead taken are listed dead_are these.
    skips_gone d facts taken keys are
    (dead_skips c.entry_order.ensures.equal d facts counts keys dead taken dead_are these) listed
