use Rattle.deny_spec_report.specs.Packages.{scanning}
use Rattle.deny_spec_removal.proofs.Asking.{asked_alike}
use Rattle.deny_spec_removal.proofs.UnhitLemmas.{bypasses_stay, of_bans}
use Rattle.deny_spec_removal.proofs.packages_stay.Goals as goal

pub returns : goal.returns
returns c = λ d facts counts taken none b given. asked_alike (scanning d facts b) taken
    (bypasses_stay c.entry_order.ensures.equal d facts taken (of_bans d facts counts taken none) b given)
