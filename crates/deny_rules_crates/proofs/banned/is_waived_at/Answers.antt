use Rattle.std.proofs.Common.{◌<◌, is_some, get_or, length, sym, ◌∙◌, arith}
use Rattle.std.proofs.lemmas.List.{get_or_default}
use Rattle.deny_base.specs.declared.edge.DepKind.TheVariants.{Normal}
use Rattle.deny_krates.specs.krate.DirectDependent.{DirectDependent}
use Rattle.deny_rules_match.specs.Wrappers.{span_at}
use Rattle.deny_rules_crates.proofs.DependentKeyLemmas.{waived-is}
use Rattle.deny_base_lists.proofs.Loops.{all_passed, all_stopped}
use Rattle.deny_rules_crates.proofs.banned.is_waived_at.Goals as goal

pub returns-then-not-is_wrapper_at : goal.returns-then-not-is_wrapper_at
returns-then-not-is_wrapper_at c =
    let g = c.args.krates.now in
    let ds = c.direct_dependents-dependents.result.now in
    let i = c.loop-dependent.dependent-index in
    let inside : i < length ds = omega arith in
    let none : DirectDependent = record { place = 0; kind = Normal } in
    all_stopped (λ (d : DirectDependent). is_some (span_at g c.args.spans.now d.place)) ds (get_or ds i none) i inside
    (get_or_default ds i none (get_or ds i none) inside)
    (sym c.is_wrapper_at.ensures ∙ c.if-not-is_wrapper_at.true) c.loop-dependent.invariant
    ∙ waived-is g c.args.place ds c.are_placed.ensures c.direct_dependents-dependents.ensures c.args.spans.now

pub returns : goal.returns
returns c =
    let g = c.args.krates.now in
    let ds = c.direct_dependents-dependents.result.now in
    all_passed (λ (d : DirectDependent). is_some
    (span_at g c.args.spans.now d.place)) ds c.loop-dependent.dependent-index
    (omega arith) c.loop-dependent.invariant
    ∙ waived-is g c.args.place ds c.are_placed.ensures c.direct_dependents-dependents.ensures c.args.spans.now
