use Rattle.std.proofs.Common.{List}
use Rattle.std.specs.Prelude.{IsTrue}
use Rattle.deny_base_lists.specs.Ascending.{Lists}
use Rattle.deny_base_lists.proofs.Sorted.{one_list}
use Rattle.deny_base.specs.Code.{asks_no_file}
use Rattle.deny_base.specs.KeyOrder.{key_cmp}
use Rattle.deny_base.specs.declared.key.Key.{Key}
use Rattle.deny_spec.specs.declared.package.Package.{Package}
use Rattle.deny_spec.specs.View.{View}
use Rattle.deny_spec_report.specs.Circumstances.{Circumstances, seen_anew}
use Rattle.deny_spec_report.specs.Codes.{unseeing}
use Rattle.deny_spec_report.specs.Facts.{Facts, AreFacts}
use Rattle.deny_spec_report.specs.Holding.{AreKeys, Holds}
use Rattle.deny_spec_report.proofs.Agreement.{holds_alike}
use Rattle.deny_spec_report.proofs.Parts.{lists_part, lists_same}
use Rattle.deny_spec_report.proofs.Unseen.{unseen_back, unseen_there}
use Rattle.deny_spec_report.proofs.laws.one_unseen.Goals as goal

abbrev HoldsUnseeing : Circumstances → Facts → Key → Type 0
HoldsUnseeing c facts key = IsTrue (asks_no_file key.code) × Holds c facts key

module _ (c : Circumstances) (view : View) (packages : List Package) where
  abbrev anew : Circumstances
  anew = seen_anew c view packages

  -- facts do not depend on what was seen
  here : (facts : Facts) → AreFacts anew facts → AreFacts c facts
  here facts are = record { chains = are.chains; reached = are.reached }

  by_these : (xs ys : List Key) (these : AreKeys c xs) → AreKeys anew ys
      → Lists key_cmp (HoldsUnseeing c these.facts) (unseeing ys)
  by_these xs ys these those =
      let right = here those.facts those.true_facts in
      lists_same key_cmp (HoldsUnseeing anew those.facts) (HoldsUnseeing c these.facts) (unseeing ys)
      (lists_part key_cmp (Holds anew those.facts) (λ key. asks_no_file key.code) ys those.listed)
      (λ key is. (
        is.0,
        holds_alike c those.facts these.facts key right these.true_facts
            (unseen_back c view packages those.facts key is.0 is.1),
      ))
      (λ key is. (
        is.0,
        unseen_there c view packages those.facts key is.0
            (holds_alike c these.facts those.facts key these.true_facts right is.1),
      ))

pub returns : goal.returns
returns c = λ d view packages xs ys these those.
    one_list c.key_order.ensures.total (unseeing xs) (unseeing ys)
    (lists_part key_cmp (Holds d these.facts) (λ key. asks_no_file key.code) xs these.listed)
    (by_these d view packages xs ys these those)
