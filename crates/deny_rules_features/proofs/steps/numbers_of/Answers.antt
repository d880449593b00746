use Rattle.std.proofs.Common.{◌+◌, List, ℕ, length, refl, sym, ap, ◌∙◌, subst, arith}
use Rattle.std.specs.FinMap as finite
use Rattle.std.proofs.lemmas.Option.{slice_get_read}
use Rattle.deny_base_lists.specs.TextMap.{TextFinMap}
use Rattle.deny_rules_features.proofs.NumberLemmas.{AreNumbersOf, all_numbered, no_numbers, one_more}
use Rattle.deny_rules_features.proofs.steps.numbers_of.Goals as goal

pub loop-number-init : goal.loop-number-init
loop-number-init c = subst (λ (numbers : TextFinMap ℕ). AreNumbersOf 0 c.args.names.now numbers)
    (sym c.new-numbers.ensures) (no_numbers c.args.names.now)

pub loop-number-preserved : goal.loop-number-preserved
loop-number-preserved c =
    let names = c.args.names.now in
    let n = c.loop-number.number in
    let name = c.index-names-number.result in
    subst (λ (numbers : TextFinMap ℕ). AreNumbersOf (n + 1) names numbers)
    (sym (c.in_ok-insert.ensures.ok
    ∙ ap (λ (t : List ℕ). finite.insert c.loop-number.numbers t n) c.in_ok-clone.ensures.cases))
    (one_more names c.loop-number.numbers n name
    (slice_get_read names (length names) n name refl c.loop-number-test.true c.index-names-number.is)
    c.loop-number.invariant)

pub returns : goal.returns
returns c = all_numbered c.args.names.now c.loop-number.numbers c.loop-number.number
    (omega arith) c.loop-number.invariant
