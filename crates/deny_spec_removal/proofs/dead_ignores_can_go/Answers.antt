use Rattle.deny_spec_removal.proofs.DeadLemmas.{dead_ignores}
use Rattle.deny_spec_removal.proofs.IgnoreRemoval.{ignores_gone}
use Rattle.deny_spec_removal.proofs.dead_ignores_can_go.Goals as goal

pub returns : goal.returns
returns c = λ d facts counts keys dead taken are listed dead_are these.
    ignores_gone d facts taken keys are
    (dead_ignores c.entry_order.ensures.equal d facts counts keys dead taken dead_are these) listed
