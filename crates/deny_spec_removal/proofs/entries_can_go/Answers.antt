use Rattle.deny_spec_removal.proofs.Removal.{entries_gone}
use Rattle.deny_spec_removal.proofs.entries_can_go.Goals as goal

pub returns : goal.returns
returns c = λ d facts counts taken keys are reports none not_emptied listed.
    entries_gone c.entry_order.ensures.equal d facts counts taken reports none not_emptied keys are listed
