use Rattle.deny_spec_report.specs.Hits.{both_hits}
use Rattle.deny_spec_removal.proofs.DeadLemmas.{dead_unhit}
use Rattle.deny_spec_removal.proofs.Removal.{entries_gone}
use Rattle.deny_spec_removal.proofs.dead_can_go.Goals as goal

pub returns : goal.returns
returns c = λ d facts counts keys dead taken are reports listed dead_are among not_emptied.
    entries_gone c.entry_order.ensures.equal d facts counts taken reports
    (dead_unhit keys (both_hits d facts counts) dead taken dead_are among) not_emptied keys are listed
