use Rattle.deny_spec_removal.proofs.HitRemoval.{hits_stay}
use Rattle.deny_spec_removal.proofs.hits_stay.Goals as goal

pub returns : goal.returns
returns c = λ d facts counts taken none e w. hits_stay c.entry_order.ensures.equal d facts counts taken none e w
