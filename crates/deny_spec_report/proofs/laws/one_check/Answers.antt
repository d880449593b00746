use Rattle.std.proofs.Common.{Bool, List}
use Rattle.deny_base_lists.proofs.Sorted.{one_list}
use Rattle.deny_base.specs.KeyOrder.{key_cmp}
use Rattle.deny_base.specs.declared.key.Key.{Key}
use Rattle.deny_base.specs.declared.key.Section.{Section}
use Rattle.deny_spec_report.specs.Circumstances.{Circumstances}
use Rattle.deny_spec_report.specs.Holding.{AreOwnKeys, ListsOwn, HoldsIn}
use Rattle.deny_spec_report.proofs.Agreement.{holds_alike}
use Rattle.deny_spec_report.proofs.Parts.{lists_same}
use Rattle.deny_spec_report.proofs.laws.one_check.Goals as goal

by_these : (mine : Section → Bool) (c : Circumstances) (xs ys : List Key) (these : AreOwnKeys mine c xs)
    → AreOwnKeys mine c ys → ListsOwn mine c these.facts ys
by_these mine c xs ys these those =
    lists_same key_cmp (HoldsIn mine c those.facts) (HoldsIn mine c these.facts) ys those.listed
    (λ key is. (is.0, holds_alike c those.facts these.facts key those.true_facts these.true_facts is.1))
    (λ key is. (is.0, holds_alike c these.facts those.facts key these.true_facts those.true_facts is.1))

pub returns : goal.returns
returns c = λ mine d xs ys these those. one_list c.key_order.ensures.total xs ys these.listed
    (by_these mine d xs ys these those)
