use Rattle.std.proofs.Common.{List}
use Rattle.deny_base_lists.specs.Ascending.{Lists}
use Rattle.deny_base_lists.proofs.Sorted.{one_list}
use Rattle.deny_base.specs.KeyOrder.{key_cmp}
use Rattle.deny_base.specs.declared.key.Key.{Key}
use Rattle.deny_spec_report.specs.Circumstances.{Circumstances}
use Rattle.deny_spec_report.specs.Holding.{AreKeys, Holds}
use Rattle.deny_spec_report.proofs.Agreement.{holds_alike}
use Rattle.deny_spec_report.proofs.Parts.{lists_same}
use Rattle.deny_spec_report.proofs.laws.one_report.Goals as goal

-- the second list also lists the keys that hold by the first list's facts
by_these : (c : Circumstances) (xs ys : List Key) (these : AreKeys c xs) → AreKeys c ys
    → Lists key_cmp (Holds c these.facts) ys
by_these c xs ys these those =
    lists_same key_cmp (Holds c those.facts) (Holds c these.facts) ys those.listed
    (λ key is. holds_alike c those.facts these.facts key those.true_facts these.true_facts is)
    (λ key is. holds_alike c these.facts those.facts key these.true_facts those.true_facts is)

pub returns : goal.returns
returns c = λ d xs ys these those. one_list c.key_order.ensures.total xs ys these.listed (by_these d xs ys these those)
