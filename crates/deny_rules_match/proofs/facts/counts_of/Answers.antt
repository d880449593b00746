use Rattle.std.proofs.Common.{◌≡◌, Bool, length, sym, subst, rules}
use Rattle.std.proofs.lemmas.Result.{IfOk-weaker}
use Rattle.deny_base.specs.declared.edge.DepKind.TheVariants.{Dev}
use Rattle.deny_krates.specs.Filtered.{AreMarks}
use Rattle.deny_rules_match.specs.Marks.{AreCounted}
use Rattle.deny_rules_match.proofs.FactLemmas.{all_counted, counted_without_dev}
use Rattle.deny_krates.proofs.PlaceLemmas.{are_placed, length_of}
use Rattle.deny_rules_match.proofs.facts.counts_of.Goals as goal

pub returns-then-include_dev : goal.returns-then-include_dev
returns-then-include_dev c =
    let g = c.args.krates.now in
    let ks = c.krates-size.result.now in
    let placed = are_placed ks g.crates c.krates-size.ensures.crates in
    let long : length ks ≡ length g.crates = sym (length_of ks g.crates c.krates-size.ensures.crates) in
    subst (λ (dev : Bool). AreCounted dev g c.in_ok-vec.field-0.items) (sym c.if-include_dev.true)
    (all_counted g c.in_ok-vec.field-0.items (length ks) placed long
    (c.in_ok-vec.ensures.items_if_clones_equal (λ y is. search rules)))

pub returns : goal.returns
returns c =
    let g = c.args.krates.now in
    let ks = c.krates-size.result.now in
    IfOk-weaker c.krates_filtered.result (λ marks. AreMarks Dev g marks.items)
    (λ marks. AreCounted c.args.include_dev g marks.items)
    (λ marks are. subst (λ (dev : Bool). AreCounted dev g marks.items) (sym c.if-include_dev.false)
    (counted_without_dev g marks.items (are_placed ks g.crates c.krates-size.ensures.crates) are))
    c.krates_filtered.ensures
