use Rattle.deny_spec_removal.proofs.Renaming.{all_renamed}
use Rattle.deny_spec_removal.proofs.spans_can_be_replaced.Goals as goal

pub returns : goal.returns
returns c = λ r d these those are are_new apart licences_apart bypasses_apart.
    all_renamed r d these those are are_new apart licences_apart bypasses_apart
